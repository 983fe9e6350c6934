-- `trace::number::number_at` meets its contract: after k groups the number at the place is pending. Assumes nothing.
use Prim.Native.Nat.{◌+◌}
use native.Mathlib.Omega.{arith}
use lib.ListN.{get_or}
use Rattle.trace.proofs.Groups.{pending_on, pending_last, product_fits, value_fits, scale_fits}
use Rattle.trace.proofs.number.number_at.Goals as goal

pub overflow_mul-value : goal.overflow_mul-value
overflow_mul-value c = omega (arith, product_fits _ c.loop-at.invariant.1.fine (get_or c.args.part.now c.loop-at.i 0))

pub overflow_add-value : goal.overflow_add-value
overflow_add-value c = omega (arith, value_fits _ c.loop-at.invariant.1.fine (get_or c.args.part.now c.loop-at.i 0))

pub returns-then-b-lt128 : goal.returns-then-b-lt128
returns-then-b-lt128 c = pending_last _ _ c.requires _ _ c.loop-at.invariant.1 c.if-b-lt128.true

pub overflow_mul-scale : goal.overflow_mul-scale
overflow_mul-scale c = omega (arith, scale_fits _ c.loop-at.invariant.1.fine 0)

pub loop-at-preserved : goal.loop-at-preserved
loop-at-preserved c =
    let w = c.loop-at.invariant in
    (w.0 + 1, pending_on _ _ c.requires _ _ w.1 c.if-b-lt128.false)
