-- `trace::reader::fill` meets its contract: at the loop's head the stores that are left make of the lists what all of them make of those at entry. Assumes nothing.
use Prim.Native.Nat.{◌≤◌}
use lib.ListN.{length, drop}
use Rattle.trace.specs.Reading.{read_of, rows}
use Rattle.trace.proofs.Filling.{Filling}
use Rattle.trace.proofs.reader.fill.Given as goal

abbrev pub invariant-loop-i : goal.invariant-loop-i
invariant-loop-i l =
    (l.i ≤ l.count) × Filling l.part l.catalogue (rows (read_of (length l.part) l.catalogue (drop l.from l.part))) l.initial.files l.initial.sizes l.initial.costs l.files l.sizes l.costs l.at l.i
