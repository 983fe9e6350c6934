-- `trace::number::read_number` meets its contract: at the loop's head the number at the place is pending. Assumes nothing.
use Prim.Native.Nat.{◌+◌}
use Rattle.trace.proofs.Groups.{Pending}
use Rattle.trace.proofs.number.read_number.Given as goal

abbrev pub invariant-loop-group : goal.invariant-loop-group
invariant-loop-group l = Pending l.part l.at (l.at + l.group) (record { value = l.value; scale = l.scale; count = l.group })
