-- `judge::places::stack_unused` meets its contract. Assumes nothing.
use Prim.Native.Nat.{◌<◌}
use native.Mathlib.Omega.{arith}
use Rattle.tables.proofs.Answers.{passed}
use Rattle.judge.proofs.Stacking.{stacking_as, stacking_start, stacking_used, stacking_free}
use Rattle.judge.proofs.places.stack_unused.Goals as goal
use Rattle.judge.proofs.places.stack_unused.Goals.{then-occupied+else-entry-p, else-occupied+else-not-is_zero}

pub loop-p-init : goal.loop-p-init
loop-p-init c = stacking_start _ _ _ _ c.requires

-- the place is one of the settings'
pub loop-p-preserved : goal.loop-p-preserved
loop-p-preserved c =
    let inside : c.loop-p.p < c.args.settings.places.0 = omega (arith, c.count-places.ensures, c.loop-p-test.true) in
    let found = c.occupied.ensures in
    let g = c.loop-p.invariant in
    let pre = c.requires in
    elim c.if-occupied.branch [
      | then-occupied+else-entry-p w ↦
          stacking_as _ _ _ _ w.free-is w.top-is (stacking_used _ _ _ _ pre _ _ _ g inside (found.yes w.if-occupied.true) w.if-entry-p.false)
      | else-occupied+else-not-is_zero w ↦
          stacking_as _ _ _ _ w.free-is w.top-is
          (stacking_free _ _ _ _ pre _ _ _ g inside (found.no w.if-occupied.false) (passed w.is_zero.ensures w.if-not-is_zero.false))
    ]
