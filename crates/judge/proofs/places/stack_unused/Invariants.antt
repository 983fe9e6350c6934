-- `judge::places::stack_unused` meets its contract. Assumes nothing.
use Rattle.tables.specs.Lent.{shown}
use Rattle.judge.proofs.Stacking.{Stacking}
use Rattle.judge.proofs.places.stack_unused.Given as goal

abbrev pub invariant-loop-p : goal.invariant-loop-p
invariant-loop-p l =
    Stacking l.settings (shown l.t) l.entry l.initial.free l.free l.top l.p
