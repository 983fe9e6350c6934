-- A lift keeps the order of the queue: keys that are moved by the same amount compare as they did. Assumes nothing.
use mathlib.Core.Path.{◌≡◌, sym, ◌∙◌, subst₂}
use mathlib.Core.Bool.{false}
use mathlib.Core.List.{List}
use Prim.Native.Nat.{ℕ, ◌+◌, ◌<◌}
use native.Mathlib.Omega.{arith}
use lib.ListN.{get_or}
use Rattle.amounts.specs.Limits.{lift}
use Rattle.amounts.specs.Order.{lower_of}
use Rattle.method.proofs.Raising.{lower_add}
use Rattle.queue.specs.Queue.{above, times, Ordered}
use Rattle.lifting.specs.Lifting.{Lifted}

-- both keys less one lift
lower_less : (k s j r k' j' : ℕ) → lift + k' ≡ k → lift + j' ≡ j → lower_of k s j r ≡ false → lower_of k' s j' r ≡ false
lower_less k s j r k' j' e f h = sym (lower_add lift k' s j' r) ∙ subst₂ (λ (x y : ℕ). lower_of x s y r ≡ false) (sym e) (sym f) h

module _ (queue keys keys' stamps : List ℕ) (n : ℕ) (once : (i : ℕ) → i < n → times (get_or queue i 0) queue n ≡ 1) (l : Lifted queue keys keys' n) where
  -- the key of an entry is one lift less
  lifted_at : (i : ℕ) → i < n → lift + get_or keys' (get_or queue i 0) 0 ≡ get_or keys (get_or queue i 0) 0
  lifted_at i h = omega (arith, once i h, l.less (get_or queue i 0))

  pub ordered_lifted : Ordered queue keys stamps n → Ordered queue keys' stamps n
  ordered_lifted o = record { order = λ i a b. lower_less _ _ _ _ _ _ (lifted_at i b) (lifted_at (above i) (omega arith)) (o.order i a b) }
