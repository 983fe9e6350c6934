-- `trace::number::number_at` meets its contract: after k groups the number at the place is pending. Assumes nothing.
use Prim.Native.Nat.{ℕ, ◌-◌}
use lib.ListN.{length}
use Rattle.trace.proofs.Groups.{Pending}
use Rattle.trace.proofs.number.number_at.Given as goal

abbrev pub invariant-loop-at : goal.invariant-loop-at
invariant-loop-at l = (k : ℕ) × Pending l.part l.at l.i (record { value = l.value; scale = l.scale; count = k })

abbrev pub decreases-loop-at : goal.decreases-loop-at
decreases-loop-at l = length l.part - l.i
