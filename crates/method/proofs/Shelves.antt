-- Laws of a shelf: its sums after a change, what holds of each kept file, and what `lowest` finds. Assumes nothing.
use mathlib.Core.Path.{◌≡◌, refl, sym, ap, ◌∙◌, subst}
use mathlib.Core.Logic.{◌⊎◌, inl, inr, ⊎_elim}
use mathlib.Core.Bool.{Bool, true, false}
use mathlib.Core.List.{[], ◌∷◌}
use Prim.Native.Nat.{ℕ, zero, suc, ◌+◌, ◌≤◌, ◌<◌}
use native.Mathlib.Omega.{arith}
use lib.ListN.{length, get_or, set}
use Rattle.amounts.specs.Limits.{pick}
use Rattle.amounts.specs.Order.{lower_of}
use Rattle.amounts.proofs.Ordering.{lower_flip, lower_self, lower_trans, lower_false, lower_neither}
use Rattle.method.specs.Shelf.{Kept, Slot, none, kept, Shelf, weigh, sum, files, NotLower, Found, nothing, at, lower, lowest, Each, Least}
use Rattle.method.specs.Promise.{Apart}

-- an empty slot keeps nothing
pub none_kept : {A : Type 0} {q : Kept} → none ≡ kept q → A
none_kept e = let z : ◌≡◌ {A = ℕ} 0 1 = cc in absurd (omega arith)

-- ---- sums

pub sum_set : (f : Kept → ℕ) (s : Shelf) (i : ℕ) (x : Slot) → sum f (set s i x) + weigh f (get_or s i none) ≤ weigh f x + sum f s
unfolding sum
sum_set f [] i x = omega arith
sum_set f (y ∷ s) zero x = omega arith
sum_set f (y ∷ s) (suc i) x = omega (arith, sum_set f s i x)

pub sum_set_eq : (f : Kept → ℕ) (s : Shelf) (i : ℕ) (x : Slot) → i < length s → sum f (set s i x) + weigh f (get_or s i none) ≡ weigh f x + sum f s
unfolding sum
sum_set_eq f [] i x h = omega arith
sum_set_eq f (y ∷ s) zero x h = omega arith
sum_set_eq f (y ∷ s) (suc i) x h = omega (arith, sum_set_eq f s i x (omega arith))

-- what one kept file adds is within the sum
pub sum_at : (f : Kept → ℕ) (s : Shelf) (i : ℕ) (r : Kept) → get_or s i none ≡ kept r → f r ≤ sum f s
unfolding sum
sum_at f [] i r h = none_kept h
sum_at f (x ∷ s) zero r h = rw h (omega arith)
sum_at f (x ∷ s) (suc i) r h = omega (arith, sum_at f s i r h)

pub files_le : (s : Shelf) → files s ≤ length s
unfolding sum
files_le [] = omega arith
files_le (none ∷ s) = omega (arith, files_le s)
files_le (kept r ∷ s) = omega (arith, files_le s)

-- where no file is kept, every sum is 0
pub sum_none : (f : Kept → ℕ) (s : Shelf) → files s ≤ 0 → sum f s ≡ 0
unfolding sum
sum_none f [] h = refl
sum_none f (none ∷ s) h = omega (arith, sum_none f s (omega arith))
sum_none f (kept r ∷ s) h = omega arith

-- ---- what holds of each kept file

pub is_kept : (P : Kept → Type 0) (r : Kept) → P r → (q : Kept) → kept r ≡ kept q → P q
is_kept P r h q e = subst P (cc) h

-- a kept file's number is below the shelf's length
pub kept_lt : (s : Shelf) (i : ℕ) (r : Kept) → get_or s i none ≡ kept r → i < length s
kept_lt [] i r h = none_kept h
kept_lt (x ∷ s) zero r h = omega arith
kept_lt (x ∷ s) (suc i) r h = omega (arith, kept_lt s i r h)

-- what is kept anywhere after a change is the new slot, at its place, or was there before
pub at_set : (s : Shelf) (i : ℕ) (x : Slot) (j : ℕ) (r : Kept) → get_or (set s i x) j none ≡ kept r → ((j ≡ i) × (x ≡ kept r)) ⊎ (get_or s j none ≡ kept r)
at_set [] i x j r e = inr e
at_set (y ∷ s) zero x zero r e = inl (refl, e)
at_set (y ∷ s) zero x (suc j) r e = inr e
at_set (y ∷ s) (suc i) x zero r e = inr e
at_set (y ∷ s) (suc i) x (suc j) r e = ⊎_elim (λ h. inl (ap suc h.0, h.1)) (λ h. inr h) (at_set s i x j r e)

pub each_cons : (P : Kept → Type 0) (x : Slot) (s : Shelf) → ((q : Kept) → x ≡ kept q → P q) → Each P s → Each P (x ∷ s)
each_cons P x s h t zero q e = h q e
each_cons P x s h t (suc j) q e = t j q e

pub each_set : (P : Kept → Type 0) (s : Shelf) (i : ℕ) (x : Slot) → ((q : Kept) → x ≡ kept q → P q) → Each P s → Each P (set s i x)
each_set P s i x h t j q e = ⊎_elim (λ z. h q z.1) (λ z. t j q z) (at_set s i x j q e)

-- ---- lowest

-- what is found: all is empty, or the file is there and no kept file is lower
abbrev pub Good : Shelf → Found → Type 0
Good s nothing = Each (λ q. ⊥) s
Good s (at i r) = (get_or s i none ≡ kept r) × Each (λ q. NotLower q r) s

lower_good : (x : Slot) (s : Shelf) (f : Found) → Good s f → Good (x ∷ s) (lower x f)
lower_good none s nothing g = each_cons _ none s (λ q e. none_kept e) g
lower_good none s (at i r) g = (g.0, each_cons _ none s (λ q e. none_kept e) g.1)
lower_good (kept r) s nothing g = (refl, each_cons _ (kept r) s (is_kept (λ q. NotLower q r) r (lower_self r.key r.stamp)) (λ j q e. absurd (g j q e)))
lower_good (kept r) s (at i p) g = go (lower_of p.key p.stamp r.key r.stamp) refl
  where
    go : (b : Bool) → lower_of p.key p.stamp r.key r.stamp ≡ b → Good (kept r ∷ s) (pick b (at (suc i) p) (at 0 r))
    go true h = (g.0, each_cons _ (kept r) s (is_kept (λ q. NotLower q p) r (lower_flip _ _ _ _ h)) g.1)
    go false h = (
      refl,
      each_cons _ (kept r) s (is_kept (λ q. NotLower q r) r (lower_self r.key r.stamp))
          (λ j q e. lower_trans q.key q.stamp p.key p.stamp r.key r.stamp (g.1 j q e) h),
    )

-- the law of `lowest`: what it finds is lowest
pub lowest_good : (s : Shelf) → Good s (lowest s)
unfolding lowest
lowest_good [] = λ j q e. none_kept e
lowest_good (x ∷ s) = lower_good x s (lowest s) (lowest_good s)

-- and the other way: the file that no kept file is lower than is what it finds
pub lowest_is : (s : Shelf) (i : ℕ) (r : Kept) → Apart s → Good s (at i r) → lowest s ≡ at i r
lowest_is s i r apart h = go (lowest s) (lowest_good s)
  where
    go : (f : Found) → Good s f → f ≡ at i r
    go nothing g = absurd (g i r h.0)
    go (at j q) g =
        let e : (r.key ≡ q.key) × (r.stamp ≡ q.stamp) = lower_neither r.key r.stamp q.key q.stamp (g.1 i r h.0) (h.1 j q g.0) in
        let n : i ≡ j = apart i j r q h.0 g.0 e.1 in
        let k : kept q ≡ kept r = sym g.0 ∙ rw (sym n) h.0 in
        let m : q ≡ r = cc in
        rw (n, m)

-- where nothing is found, nothing is kept, and the other way
pub lowest_nothing : (s : Shelf) → Each (λ q. ⊥) s → lowest s ≡ nothing
lowest_nothing s h = go (lowest s) (lowest_good s)
  where
    go : (f : Found) → Good s f → f ≡ nothing
    go nothing g = refl
    go (at j q) g = absurd (h j q g.0)

pub not_lower_key : (r q : Kept) → NotLower q r → r.key ≤ q.key
not_lower_key r q h = ⊎_elim (λ z. omega arith) (λ z. omega arith) (lower_false q.key q.stamp r.key r.stamp h)

-- the lowest file is some file of least key
pub lowest_least : (s : Shelf) (i : ℕ) (r : Kept) → Good s (at i r) → Least s i r
lowest_least s i r g = record { here = g.0; least = λ j q e. not_lower_key r q (g.1 j q e) }
