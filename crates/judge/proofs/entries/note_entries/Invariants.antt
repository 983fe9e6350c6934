-- `judge::entries::note_entries` meets its contract. Assumes nothing.
use Rattle.tables.specs.Lent.{shown}
use Rattle.judge.proofs.Entering.{Noting}
use Rattle.judge.proofs.entries.note_entries.Given as goal

abbrev pub invariant-loop-i : goal.invariant-loop-i
invariant-loop-i l = Noting l.settings l.n (shown l.t) l.initial.entry l.entry l.i
