-- The laws of `lower_of`: what it says of the numbers, and that "not lower" is an order. Assumes nothing.
use mathlib.Core.Path.{◌≡◌, refl, sym, ◌∙◌}
use mathlib.Core.Logic.{◌⊎◌, inl, inr, ⊎_elim}
use mathlib.Core.Bool.{true, false, true≢false}
use Prim.Native.Nat.{ℕ, ◌≤◌, ◌<◌}
use native.Mathlib.Omega.{arith}
use lib.Dec.{ltb}
use borrow.Author.Tests.{ltb-true, ltb-false, lt-ltb, le-ltb, eq-eqb, ne_eqb}
use Rattle.amounts.specs.Order.{lower_of}
use Rattle.amounts.proofs.Tests.{below}

module _ (ka sa kb sb : ℕ) where
  lower_lt : ka < kb → lower_of ka sa kb sb ≡ true
  unfolding lower_of
  lower_lt h = simp (lt-ltb ka kb h)

  lower_gt : kb < ka → lower_of ka sa kb sb ≡ false
  unfolding lower_of
  lower_gt h = simp (le-ltb ka kb (omega arith), ne_eqb ka kb (omega arith))

  lower_eq : ka ≡ kb → lower_of ka sa kb sb ≡ ltb sa sb
  unfolding lower_of
  lower_eq h = simp (le-ltb ka kb (omega arith), eq-eqb ka kb h)

  -- what a test that failed says of the numbers
  pub lower_false : lower_of ka sa kb sb ≡ false → (kb < ka) ⊎ ((ka ≡ kb) × (sb ≤ sa))
  lower_false e = ⊎_elim (λ h. absurd (true≢false (sym (lower_lt h) ∙ e))) (λ h. ⊎_elim (λ g. inl g) (λ g. inr (equal (omega arith))) (below kb ka)) (below ka kb)
    where
      equal : ka ≡ kb → (ka ≡ kb) × (sb ≤ sa)
      equal q = (q, ltb-false sa sb (sym (lower_eq q) ∙ e))

  pub not_lower : (kb < ka) ⊎ ((ka ≡ kb) × (sb ≤ sa)) → lower_of ka sa kb sb ≡ false
  not_lower (inl h) = lower_gt h
  not_lower (inr h) = lower_eq h.0 ∙ le-ltb sa sb h.1

  pub lower_true : lower_of ka sa kb sb ≡ true → (ka < kb) ⊎ ((ka ≡ kb) × (sa < sb))
  lower_true e = ⊎_elim (λ h. inl h) (λ h. ⊎_elim (λ g. absurd (true≢false (sym e ∙ lower_gt g))) (λ g. inr (equal (omega arith))) (below kb ka)) (below ka kb)
    where
      equal : ka ≡ kb → (ka ≡ kb) × (sa < sb)
      equal q = (q, ltb-true sa sb (sym (lower_eq q) ∙ e))

-- of two files the one is not lower where the other is
pub lower_flip : (ka sa kb sb : ℕ) → lower_of ka sa kb sb ≡ true → lower_of kb sb ka sa ≡ false
lower_flip ka sa kb sb e = not_lower kb sb ka sa (⊎_elim (λ h. inl h) (λ h. inr (sym h.0, omega (arith, h.1))) (lower_true ka sa kb sb e))

pub lower_self : (k s : ℕ) → lower_of k s k s ≡ false
lower_self k s = not_lower k s k s (inr (refl, omega arith))

pub lower_trans : (ka sa kb sb kc sc : ℕ) → lower_of ka sa kb sb ≡ false → lower_of kb sb kc sc ≡ false → lower_of ka sa kc sc ≡ false
lower_trans ka sa kb sb kc sc p q = not_lower ka sa kc sc (go (lower_false ka sa kb sb p) (lower_false kb sb kc sc q))
  where
    go : (kb < ka) ⊎ ((ka ≡ kb) × (sb ≤ sa)) → (kc < kb) ⊎ ((kb ≡ kc) × (sc ≤ sb)) → (kc < ka) ⊎ ((ka ≡ kc) × (sc ≤ sa))
    go (inl h) (inl g) = inl (omega arith)
    go (inl h) (inr g) = inl (omega arith)
    go (inr h) (inl g) = inl (omega arith)
    go (inr h) (inr g) = inr (omega arith, omega arith)

-- two files of which neither is lower have the same key and the same stamp
pub lower_neither : (ka sa kb sb : ℕ) → lower_of ka sa kb sb ≡ false → lower_of kb sb ka sa ≡ false → (ka ≡ kb) × (sa ≡ sb)
lower_neither ka sa kb sb p q = go (lower_false ka sa kb sb p) (lower_false kb sb ka sa q)
  where
    go : (kb < ka) ⊎ ((ka ≡ kb) × (sb ≤ sa)) → (ka < kb) ⊎ ((kb ≡ ka) × (sa ≤ sb)) → (ka ≡ kb) × (sa ≡ sb)
    go (inl h) (inl g) = absurd (omega arith)
    go (inl h) (inr g) = absurd (omega arith)
    go (inr h) (inl g) = absurd (omega arith)
    go (inr h) (inr g) = (h.0, omega arith)
