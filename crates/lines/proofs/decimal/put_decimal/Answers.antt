-- `lines::decimal::put_decimal` meets its contract. Assumes nothing.
use native.Mathlib.Omega.{arith}
use Rattle.lines.proofs.Digits.{storing_first, storing_on, storing_more, storing_end, some_decimal}
use Rattle.lines.proofs.decimal.put_decimal.Goals as goal

pub overflow_sub-i : goal.overflow_sub-i
overflow_sub-i c = omega (arith, c.width.ensures, some_decimal c.args.n)

pub loop-left-init : goal.loop-left-init
loop-left-init c = storing_first _ _ _ _ (omega arith) (omega (arith, c.width.ensures, some_decimal c.args.n))

pub overflow_sub-i-in-loop-left : goal.overflow_sub-i-in-loop-left
overflow_sub-i-in-loop-left c = storing_on _ _ _ _ _ _ c.loop-left.invariant c.loop-left-test.true

pub loop-left-preserved : goal.loop-left-preserved
loop-left-preserved c = storing_more _ _ _ _ _ _ c.loop-left.invariant c.loop-left-test.true

pub returns : goal.returns
returns c = storing_end _ _ _ _ _ _ c.loop-left.invariant c.loop-left-test.false _ (omega (arith, c.width.ensures))
