-- `weighing::sums::add_products` meets its contract. Assumes nothing.
use mathlib.Core.Path.{◌≡◌, ◌∙◌, sym, subst}
use Prim.Native.Nat.{ℕ, ◌<◌}
use native.Mathlib.Omega.{arith}
use lib.ListN.{length, get_or, take, length-take}
use lib.Seq.{get_or-take}
use Rattle.tables.specs.Lent.{shown}
use Rattle.weighing.proofs.Adding.{Adding, run_nobody, run_few, run_none, run_some, product_below}
use Rattle.weighing.proofs.sums.add_products.Goals as goal
use Rattle.weighing.proofs.sums.add_products.Goals.{then-home, else-home}

pub loop-home-init : goal.loop-home-init
loop-home-init c = run_nobody _ _

-- the file is one of the catalogue, and its place one of the tables', with a size and a cost in force
pub add_assign-requires : goal.add_assign-requires
add_assign-requires c =
    let pre = c.requires in
    let n : ℕ = c.count-n.result in
    let file : ℕ = c.loop-home.home-index in
    let inside : file < n = omega (arith, length-take n c.args.t.place.now, c.loop-home-test.true) in
    let here : get_or (take n c.args.t.place.now) file 0 ≡ get_or c.args.t.place.now file 0 = get_or-take n c.args.t.place.now file 0 inside in
    let few = run_few _ _ c.loop-home.invariant in
    let less = product_below (shown c.args.t) pre.weighable file (omega (arith, c.count-n.ensures)) (rw here at c.if-home.true) (rw here at c.kept_product.ensures) in
    (omega (arith, few, pre.lifts_le_requests_most, pre.weighable.few, c.count-n.ensures, inside), less)

pub loop-home-preserved : goal.loop-home-preserved
loop-home-preserved c =
    let loop = c.loop-home in
    let n : ℕ = c.count-n.result in
    let inside : loop.home-index < n = omega (arith, length-take n c.args.t.place.now, c.loop-home-test.true) in
    let known : loop.home-index < c.args.catalogue.0 = omega (arith, c.count-n.ensures, inside) in
    let here : get_or (take n c.args.t.place.now) loop.home-index 0 ≡ get_or c.args.t.place.now loop.home-index 0 = get_or-take n c.args.t.place.now loop.home-index 0 inside in
    let l : loop.home-index < length c.args.t.place.now = omega (arith, c.requires.weighable.long, known) in
    elim c.if-home.branch [
      | then-home w ↦
          let some = rw here at w.if-home.true in
          let due = rw here at w.kept_product.ensures in
          let less = product_below (shown c.args.t) c.requires.weighable _ known some due in
          run_some _ _ loop.invariant l some due less (w.sum-is ∙ w.add_assign.ensures.after)
      | else-home w ↦ subst (Adding _ _ _) (sym w.sum-is) (run_none _ _ loop.invariant l (rw here at w.if-home.false))
    ]
