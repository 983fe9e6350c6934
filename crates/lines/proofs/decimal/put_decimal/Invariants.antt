-- `lines::decimal::put_decimal` meets its contract: at the loop's head the digits of what is left make of the list what all of them make of the list at entry. Assumes nothing.
use Rattle.lines.proofs.Digits.{Storing}
use Rattle.lines.proofs.decimal.put_decimal.Given as goal

abbrev pub invariant-loop-left : goal.invariant-loop-left
invariant-loop-left l = Storing l.n l.at l.initial.out l.left l.i l.out

abbrev pub decreases-loop-left : goal.decreases-loop-left
decreases-loop-left l = l.left
