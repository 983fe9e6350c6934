-- `lines::decimal::width` meets its contract. Assumes nothing.
use Rattle.lines.proofs.Digits.{Counting}
use Rattle.lines.proofs.decimal.width.Given as goal

abbrev pub invariant-loop-left : goal.invariant-loop-left
invariant-loop-left l = Counting l.n l.left l.count

abbrev pub decreases-loop-left : goal.decreases-loop-left
decreases-loop-left l = l.left
