-- `trace::reader::scan` meets its contract: at the loop's head the answer of the whole is the answer of what is left. Assumes nothing.
use Prim.Native.Nat.{◌-◌, ◌≤◌}
use mathlib.Core.Path.{◌≡◌}
use lib.ListN.{length, drop}
use Rattle.trace.specs.Reading.{read_of}
use Rattle.trace.specs.Steps.{counted}
use Rattle.trace.proofs.reader.scan.Given as goal

abbrev pub invariant-loop-at : goal.invariant-loop-at
invariant-loop-at l =
    (l.count ≤ l.at) × (l.at ≤ length l.part)
    × (counted 0 (read_of (length l.part) l.catalogue.0 (drop l.from l.part)) ≡ counted l.count (read_of (length l.part) l.catalogue.0 (drop l.at l.part)))

abbrev pub decreases-loop-at : goal.decreases-loop-at
decreases-loop-at l = length l.part - l.at
