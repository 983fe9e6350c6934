-- Laws of `next` and `clear`: one turn; what taking the lowest keeps; and that with turns enough it fits. Assumes nothing.
use mathlib.Core.Path.{◌≡◌, refl, subst}
use mathlib.Core.Logic.{◌⊎◌, inl, inr, ⊎_elim}
use mathlib.Core.Bool.{Bool, true, false, ◌&&◌}
use mathlib.Core.List.{[], ◌∷◌}
use Prim.Native.Nat.{ℕ, zero, suc, ◌+◌, ◌≤◌}
use native.Mathlib.Omega.{arith}
use lib.Dec.{leb}
use borrow.Author.Tests.{leb-true}
use lib.ListN.{get_or, set}
use Rattle.amounts.specs.Limits.{pick}
use Rattle.method.specs.Shelf.{Kept, none, kept, Shelf, sum, bytes, files, Found, nothing, at, lowest}
use Rattle.method.specs.Method.{Settings, Wanted, fits, next, also, clear}
use Rattle.method.proofs.Shelves.{Good, lowest_good, sum_set, sum_none}

pub next_at : (c : Settings) (e : Wanted) (s : Shelf) (i : ℕ) (r : Kept) → next c e s ≡ at i r → (fits c e s ≡ false) × Good s (at i r)
next_at c e s i r h = go (fits c e s) refl h
  where
    go : (b : Bool) → fits c e s ≡ b → ◌≡◌ {A = Found} (pick b nothing (lowest s)) (at i r) → (fits c e s ≡ false) × Good s (at i r)
    go true p k = let z : ◌≡◌ {A = ℕ} 0 1 = cc in absurd (omega arith)
    go false p k = (p, subst (Good s) k (lowest_good s))

pub next_none : (c : Settings) (e : Wanted) (s : Shelf) → next c e s ≡ nothing → (fits c e s ≡ true) ⊎ Good s nothing
next_none c e s h = go (fits c e s) refl h
  where
    go : (b : Bool) → fits c e s ≡ b → ◌≡◌ {A = Found} (pick b nothing (lowest s)) nothing → (fits c e s ≡ true) ⊎ Good s nothing
    go true p k = inl p
    go false p k = inr (subst (Good s) k (lowest_good s))

-- ---- one turn

pub clear_stop : (c : Settings) (e : Wanted) (n l : ℕ) (s : Shelf) → next c e s ≡ nothing
    → clear c e (suc n) l s ≡ record { inflation = l; shelf = s; taken = [] }
unfolding clear
clear_stop c e n l s h = rw (h, clear)

pub clear_more : (c : Settings) (e : Wanted) (n l : ℕ) (s : Shelf) (i : ℕ) (r : Kept) → next c e s ≡ at i r
    → clear c e (suc n) l s ≡ also i r (clear c e n r.key (set s i none))
unfolding clear
clear_more c e n l s i r h = rw (h, clear)

-- ---- one law for every property that taking the lowest keeps

module _ (c : Settings) (e : Wanted) (P : ℕ → Shelf → Type 0)
    (keeps : (l : ℕ) (s : Shelf) (i : ℕ) (r : Kept) → P l s → Good s (at i r) → P r.key (set s i none)) where
  clear_turn : (n : ℕ) → ((l : ℕ) (s : Shelf) → P l s → P (clear c e n l s).inflation (clear c e n l s).shelf)
      → (l : ℕ) (s : Shelf) → P l s → (f : Found) → next c e s ≡ f → P (clear c e (suc n) l s).inflation (clear c e (suc n) l s).shelf
  clear_turn n ih l s h nothing p = rw (clear_stop c e n l s p) h
  clear_turn n ih l s h (at i r) p = rw (clear_more c e n l s i r p) (ih r.key (set s i none) (keeps l s i r h (next_at c e s i r p).1))

  pub clear_keeps : (n l : ℕ) (s : Shelf) → P l s → P (clear c e n l s).inflation (clear c e n l s).shelf
  unfolding clear
  clear_keeps zero l s h = h
  clear_keeps (suc n) l s h = clear_turn n (λ l s. clear_keeps n l s) l s h (next c e s) refl

-- ---- with turns enough, it fits

pub record Fits (c : Settings) (e : Wanted) (s : Shelf) : Type 0 where
  pub bytes : bytes s + e.bytes ≤ c.capacity
  pub files : files s + e.files ≤ c.places

fits_true : (c : Settings) (e : Wanted) (s : Shelf) → fits c e s ≡ true → Fits c e s
fits_true c e s h = go (leb (bytes s + e.bytes) c.capacity) refl h
  where
    go : (b : Bool) → leb (bytes s + e.bytes) c.capacity ≡ b → (b && leb (files s + e.files) c.places) ≡ true → Fits c e s
    go true p k = record { bytes = leb-true _ _ p; files = leb-true _ _ k }
    go false p k = let z : ◌≡◌ {A = ℕ} 0 1 = cc in absurd (omega arith)

-- a shelf with no file is empty of bytes
pub sum_empty : (f : Kept → ℕ) (s : Shelf) → ((j : ℕ) (q : Kept) → get_or s j none ≡ kept q → ⊥) → sum f s ≡ 0
unfolding sum
sum_empty f [] h = refl
sum_empty f (none ∷ s) h = omega (arith, sum_empty f s (λ j. h (suc j)))
sum_empty f (kept r ∷ s) h = absurd (h 0 r refl)

module _ (c : Settings) (e : Wanted) (small : e.bytes ≤ c.capacity) (one : e.files ≤ c.places) where
  fits_none : (s : Shelf) → files s ≤ 0 → Fits c e s
  fits_none s h = record { bytes = omega (arith, sum_none (λ r. r.size) s h); files = omega arith }

  clear_fits_turn : (n : ℕ) → ((l : ℕ) (s : Shelf) → files s ≤ n → Fits c e (clear c e n l s).shelf)
      → (l : ℕ) (s : Shelf) → files s ≤ suc n → (f : Found) → next c e s ≡ f → Fits c e (clear c e (suc n) l s).shelf
  clear_fits_turn n ih l s h nothing p =
      rw (clear_stop c e n l s p) (⊎_elim (fits_true c e s) (λ g. fits_none s (omega (arith, sum_empty (λ r. 1) s g))) (next_none c e s p))
  clear_fits_turn n ih l s h (at i r) p =
      let k : files (set s i none) + 1 ≤ 0 + files s = rw (next_at c e s i r p).1.0 at (sum_set (λ r. 1) s i none) in
      rw (clear_more c e n l s i r p) (ih r.key (set s i none) (omega arith))

  pub clear_fits : (n l : ℕ) (s : Shelf) → files s ≤ n → Fits c e (clear c e n l s).shelf
  unfolding clear
  clear_fits zero l s h = fits_none s h
  clear_fits (suc n) l s h = clear_fits_turn n (λ l s. clear_fits n l s) l s h (next c e s) refl
