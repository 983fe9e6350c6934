-- `trace::number::read_number` meets its contract: at the loop's head the number at the place is pending. Assumes nothing.
use Prim.Native.Nat.{◌+◌}
use mathlib.Core.Path.{refl, subst}
use native.Mathlib.Omega.{arith}
use lib.ListN.{get_or}
use Rattle.trace.proofs.Groups.{Pending, fresh, pending_first, product_fits, value_fits, scale_fits, reading_more, reading_last, reading_zero, reading_none}
use Rattle.trace.proofs.number.read_number.Goals as goal
use Rattle.trace.proofs.number.read_number.Goals.{else-b-eq0-via-then-b-eq0+else-group-gt0, else-b-eq0-via-else-b-eq0}

pub loop-group-init : goal.loop-group-init
loop-group-init c = subst (λ i. Pending c.args.part.now c.args.at i fresh) (omega arith) (pending_first c.args.part.now c.args.at)

pub returns-then-part-i : goal.returns-then-part-i
returns-then-part-i c = (refl, reading_none _ _ _ _ _ c.loop-group.invariant (λ few. c.if-part-i.true))

pub overflow_mul-value : goal.overflow_mul-value
overflow_mul-value c = omega (arith, product_fits _ c.loop-group.invariant.fine (get_or c.args.part.now (c.args.at + c.loop-group.group) 0))

pub overflow_add-value : goal.overflow_add-value
overflow_add-value c = omega (arith, value_fits _ c.loop-group.invariant.fine (get_or c.args.part.now (c.args.at + c.loop-group.group) 0))

pub overflow_mul-scale : goal.overflow_mul-scale
overflow_mul-scale c = omega (arith, scale_fits _ c.loop-group.invariant.fine 0)

pub returns-then-group-gt0 : goal.returns-then-group-gt0
returns-then-group-gt0 c = (refl, reading_zero _ _ _ _ _ c.loop-group.invariant (omega (arith, c.loop-group-test.true)) (omega (arith, c.if-part-i.false)) c.if-b-eq0.true c.if-group-gt0.true)

pub returns-then-b-lt128 : goal.returns-then-b-lt128
returns-then-b-lt128 c =
    reading_last _ _ _ _ _ c.loop-group.invariant (omega (arith, c.loop-group-test.true)) (omega (arith, c.if-part-i.false)) c.if-b-lt128.true (λ e k.
    elim c.else-b-eq0.branch [ else-b-eq0-via-then-b-eq0+else-group-gt0 w ↦ absurd (omega (arith, k, w.if-group-gt0.false)) | else-b-eq0-via-else-b-eq0 w ↦ absurd (w.if-b-eq0.false e) ])

pub loop-group-preserved : goal.loop-group-preserved
loop-group-preserved c = reading_more _ _ _ _ _ c.loop-group.invariant (omega (arith, c.loop-group-test.true)) (omega (arith, c.if-part-i.false)) c.if-b-lt128.false

pub returns : goal.returns
returns c = (refl, reading_none _ _ _ _ _ c.loop-group.invariant (λ few. absurd (omega (arith, few, c.loop-group-test.false))))
