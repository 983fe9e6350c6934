-- `writer::number::put_number` meets its contract: at the loop's head the groups that are left make of the list what all of them make of the list at entry. Assumes nothing.
use Rattle.trace.proofs.Spelling.{Putting}
use Rattle.writer.proofs.number.put_number.Given as goal

abbrev pub invariant-loop-left : goal.invariant-loop-left
invariant-loop-left l = Putting l.n l.at l.initial.out l.left l.i l.out

abbrev pub decreases-loop-left : goal.decreases-loop-left
decreases-loop-left l = l.left
