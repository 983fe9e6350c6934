-- One turn of a lift: one entry more. Assumes nothing.
use mathlib.Core.Path.{◌≡◌, refl, ap, ◌∙◌}
use mathlib.Core.Logic.{⊎_elim}
use mathlib.Core.List.{List}
use Prim.Native.Nat.{ℕ, ◌+◌, ◌-◌, ◌*◌, ◌≤◌, ◌<◌}
use native.Mathlib.Omega.{arith}
use lib.ListN.{get_or, set, length-set}
use lib.Seq.{get_or-set_same, get_or-set_other}
use Rattle.amounts.proofs.Tests.{same}
use Rattle.amounts.specs.Limits.{lift}
use Rattle.queue.specs.Queue.{is, total, times}
use Rattle.queue.proofs.Totals.{total_more, total_prefix, is_same, is_other}
use Rattle.lifting.specs.Lifting.{Liftable, Lifted}

pub lifted_none : (queue keys : List ℕ) → Lifted queue keys keys 0
unfolding total
lifted_none queue keys = record { long = refl; less = λ p. omega arith }

module _ (queue keys keys' : List ℕ) (n i : ℕ) (a : Liftable queue keys n) (h : i < n) (l : Lifted queue keys keys' i) where
  -- the key of the entry still has the lift that is taken
  pub lift_left : lift ≤ get_or keys' (get_or queue i 0) 0
  lift_left =
      let p : ℕ = get_or queue i 0 in
      omega (arith, a.enough p, l.less p, total_more (is p) queue i, is_same p p refl, total_prefix (is p) queue (i + 1) n (omega arith))

  pub lifted_more : Lifted queue keys (set keys' (get_or queue i 0) (get_or keys' (get_or queue i 0) 0 - lift)) (i + 1)
  lifted_more = record { long = length-set keys' (get_or queue i 0) (get_or keys' (get_or queue i 0) 0 - lift) ∙ l.long; less = less }
    where
      less : (p : ℕ) → get_or (set keys' (get_or queue i 0) (get_or keys' (get_or queue i 0) 0 - lift)) p 0 + times p queue (i + 1) * lift ≡ get_or keys p 0
      less p = ⊎_elim
          (λ e. omega (
            arith,
            lift_left,
            l.less p,
            total_more (is p) queue i,
            is_same p (get_or queue i 0) e,
            ap (λ (k : ℕ). get_or (set keys' (get_or queue i 0) (get_or keys' (get_or queue i 0) 0 - lift)) k 0) e,
            ap (λ (k : ℕ). get_or keys' k 0) e,
            get_or-set_same keys' (get_or queue i 0) (get_or keys' (get_or queue i 0) 0 - lift) 0 (omega (arith, a.keyed i h, l.long)),
          ))
          (λ ne. omega (arith, l.less p, total_more (is p) queue i, is_other p (get_or queue i 0) ne, get_or-set_other keys' (get_or queue i 0) p (get_or keys' (get_or queue i 0) 0 - lift) 0 ne))
          (same p (get_or queue i 0))
