-- `lines::decimal::width` meets its contract. Assumes nothing.
use native.Mathlib.Omega.{arith}
use Rattle.lines.proofs.Digits.{counting_few, counting_more, counting_end}
use Rattle.lines.proofs.decimal.width.Goals as goal

pub overflow_add-count : goal.overflow_add-count
overflow_add-count c = omega (arith, counting_few c.args.n c.loop-left.left c.loop-left.count c.loop-left.invariant)

pub loop-left-preserved : goal.loop-left-preserved
loop-left-preserved c = counting_more _ _ _ c.loop-left.invariant c.loop-left-test.true

pub returns : goal.returns
returns c = counting_end _ _ _ c.loop-left.invariant c.loop-left-test.false
