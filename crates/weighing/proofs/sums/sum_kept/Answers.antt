-- `weighing::sums::sum_kept` meets its contract. Assumes nothing.
use mathlib.Core.Path.{◌≡◌, ap, ◌∙◌}
use Prim.Native.Nat.{ℕ, ◌<◌}
use native.Mathlib.Omega.{arith}
use lib.ListN.{length, get_or, take, length-take}
use lib.Seq.{get_or-take}
use Rattle.amounts.specs.declared.bytes.Bytes.{Bytes}
use Rattle.weighing.proofs.Adding.{placed, to_nobody, to_none, to_some}
use Rattle.tables.specs.Lent.{shown}
use Rattle.weighing.proofs.sums.sum_kept.Goals as goal
use Rattle.weighing.proofs.sums.sum_kept.Goals.{then-home, else-home}

pub loop-home-init : goal.loop-home-init
loop-home-init c = (to_nobody _ _ _, to_nobody _ _ _, to_nobody _ _ _)

-- the file is one of the catalogue, and its place one of the tables'
pub loop-home-preserved : goal.loop-home-preserved
loop-home-preserved c =
    let loop = c.loop-home in
    let n : ℕ = c.count-n.result in
    let inside : loop.home-index < n = omega (arith, length-take n c.args.t.place.now, c.loop-home-test.true) in
    let t = shown c.args.t in
    let l : loop.home-index < length t.place = omega (arith, c.requires.long, c.count-n.ensures, inside) in
    let here : get_or (take n t.place) loop.home-index 0 ≡ get_or t.place loop.home-index 0 = get_or-take n t.place loop.home-index 0 inside in
    let known : loop.home-index < c.args.catalogue.0 = omega (arith, c.count-n.ensures, inside) in
    elim c.if-home.branch [
      | then-home w ↦
          let some = rw here at w.if-home.true in
          let valued = (placed some (c.requires.valued _ known)).1 in
          let seldom = placed some (c.requires.seldom _ known) in (
            to_some _ _ t loop.invariant.0 l some (omega arith) w.files-is,
            to_some _ _ t loop.invariant.1 l some (omega (arith, valued.size_at_most)) (ap (λ (b : Bytes). b.0) w.bytes-is ∙ rw here at w.add_assign.ensures.after),
            to_some _ _ t loop.invariant.2 l some (omega (arith, seldom)) (rw here at w.freqs-is),
          )
      | else-home w ↦
          let none = rw here at w.if-home.false in (
            to_none _ _ t loop.invariant.0 l none w.files-is,
            to_none _ _ t loop.invariant.1 l none (ap (λ (b : Bytes). b.0) w.bytes-is),
            to_none _ _ t loop.invariant.2 l none w.freqs-is,
          )
    ]
