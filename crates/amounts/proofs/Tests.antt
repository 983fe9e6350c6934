-- Tests and what they decide: the ways through a `pick`, the range test, cases on two numbers. Assumes nothing.
use mathlib.Core.Path.{◌≡◌, refl, sym, ◌∙◌}
use mathlib.Core.Logic.{◌⊎◌, inl, inr, ⊎_elim}
use mathlib.Core.Bool.{Bool, true, false, not}
use Prim.Native.Nat.{ℕ, ◌+◌, ◌-◌, ◌≤◌, ◌<◌}
use native.Mathlib.Omega.{arith}
use lib.Dec.{leb, ltb, eqb}
use borrow.Author.Tests.{ltb-true, ltb-false, leb-true, eqb-true, eqb-false, le-ltb, le-leb, lt-leb, not-true, not-false}
use Rattle.amounts.specs.Limits.{pick, one_to}

-- what a call ensures of its result, and what a branch learnt of it
pub told : {r x b : Bool} → r ≡ x → r ≡ b → x ≡ b
told p q = sym p ∙ q

-- the same of a test that the code negates
pub denied : {r x : Bool} → r ≡ x → not r ≡ true → x ≡ false
denied {r} p q = told p (not-true r q)

pub allowed : {r x : Bool} → r ≡ x → not r ≡ false → x ≡ true
allowed {r} p q = told p (not-false r q)

pub pick_true : {A : Type 0} {t : Bool} (a b : A) → t ≡ true → pick t a b ≡ a
pick_true a b e = rw e

pub pick_false : {A : Type 0} {t : Bool} (a b : A) → t ≡ false → pick t a b ≡ b
pick_false a b e = rw e

pub below : (a b : ℕ) → (a < b) ⊎ (b ≤ a)
below a b = go (ltb a b) refl
  where
    go : (t : Bool) → ltb a b ≡ t → (a < b) ⊎ (b ≤ a)
    go true e = inl (ltb-true a b e)
    go false e = inr (ltb-false a b e)

pub same : (a b : ℕ) → (a ≡ b) ⊎ (a ≡ b → ⊥)
same a b = go (eqb a b) refl
  where
    go : (t : Bool) → eqb a b ≡ t → (a ≡ b) ⊎ (a ≡ b → ⊥)
    go true e = inl (eqb-true a b e)
    go false e = inr (eqb-false a b e)

-- the range test, both ways
pub in_one_to : (m n : ℕ) → 1 ≤ n → n ≤ m → one_to m n ≡ true
unfolding one_to
in_one_to m n a b = simp (le-ltb n 1 a, le-leb n m b)

pub one_to_lem : (m n : ℕ) → one_to m n ≡ true → (1 ≤ n) × (n ≤ m)
unfolding one_to
one_to_lem m n e = go (ltb n 1) refl e
  where
    go : (t : Bool) → ltb n 1 ≡ t → pick t false (leb n m) ≡ true → (1 ≤ n) × (n ≤ m)
    go true h e = let z : ◌≡◌ {A = ℕ} 0 1 = cc in absurd (omega arith)
    go false h e = (ltb-false n 1 h, leb-true n m e)

-- what is left is enough exactly where both together are
pub leb_minus : (a b m : ℕ) → a ≤ m → leb b (m - a) ≡ leb (a + b) m
leb_minus a b m h =
    ⊎_elim (λ g. lt-leb b (m - a) (omega arith) ∙ sym (lt-leb (a + b) m g)) (λ g. le-leb b (m - a) (omega arith) ∙ sym (le-leb (a + b) m g))
    (below m (a + b))
