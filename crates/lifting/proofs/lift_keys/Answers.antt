-- `lifting::lift_keys` meets its contract: after so many turns one lift is taken for each of the entries passed. Assumes nothing.
use Prim.Native.Nat.{◌<◌}
use native.Mathlib.Omega.{arith}
use lib.ListN.{length-take}
use lib.Seq.{get_or-take}
use Rattle.lifting.proofs.Turn.{lifted_none, lift_left, lifted_more}
use Rattle.lifting.proofs.lift_keys.Goals as goal

pub loop-place-init : goal.loop-place-init
loop-place-init c = lifted_none _ _

pub overflow_sub-keys : goal.overflow_sub-keys
overflow_sub-keys c =
    let inside : c.loop-place.place-index < c.args.n = omega (arith, length-take c.args.n c.args.queue.now, c.loop-place-test.true) in
    rw get_or-take (lift_left _ _ _ _ _ c.requires inside c.loop-place.invariant)

pub loop-place-preserved : goal.loop-place-preserved
loop-place-preserved c =
    let inside : c.loop-place.place-index < c.args.n = omega (arith, length-take c.args.n c.args.queue.now, c.loop-place-test.true) in
    rw get_or-take (lifted_more _ _ _ _ _ c.requires inside c.loop-place.invariant)
