-- The shelf that tables stand for: the slot of a file, and what a change of the tables makes of it. Assumes nothing.
use mathlib.Core.Path.{◌≡◌, refl, ap, ◌∙◌}
use mathlib.Core.List.{List, [], ◌∷◌, map}
use Prim.Native.Nat.{ℕ, zero, suc, ◌≤◌, ◌<◌}
use native.Mathlib.Omega.{arith}
use lib.Dec.{eqb}
use lib.ListN.{length, get_or, set, take, replicate, length-map}
use lib.Seq.{length-take-le, get_or-take, take-set-lt}
use borrow.Author.Tests.{eq-eqb, ne_eqb}
use Rattle.amounts.specs.Limits.{pick, no_place}
use Rattle.amounts.proofs.Tests.{pick_true, pick_false}
use Rattle.method.specs.Shelf.{none, kept}
use Rattle.tables.specs.Tables.{Tables, record_at, slot_of, shelf_of, cleared}
use Rattle.tables.proofs.Lists.{take_filled}

-- ---- a slot

pub slot_none : (t : Tables) (p : ℕ) → p ≡ no_place → slot_of t p ≡ none
unfolding slot_of
slot_none t p e = pick_true none (kept (record_at t p)) (eq-eqb p no_place e)

pub slot_kept : (t : Tables) (p : ℕ) → (p ≡ no_place → ⊥) → slot_of t p ≡ kept (record_at t p)
unfolding slot_of
slot_kept t p ne = pick_false none (kept (record_at t p)) (ne_eqb p no_place ne)

slot_same : (t u : Tables) (p : ℕ) → record_at u p ≡ record_at t p → slot_of u p ≡ slot_of t p
unfolding slot_of
slot_same t u p e = ap (λ r. pick (eqb p no_place) none (kept r)) e

-- ---- maps over a list

map_at : {A B : Type 0} (g : A → B) (l : List A) (i : ℕ) (d : A) (e : B) → i < length l → get_or (map g l) i e ≡ g (get_or l i d)
map_at g [] i d e h = absurd (omega arith)
map_at g (x ∷ l) zero d e h = refl
map_at g (x ∷ l) (suc i) d e h = map_at g l i d e (omega arith)

map_replicate : {A B : Type 0} (g : A → B) (n : ℕ) (x : A) → map g (replicate n x) ≡ replicate n (g x)
map_replicate g zero x = refl
map_replicate g (suc n) x = ap (λ r. g x ∷ r) (map_replicate g n x)

map_same : {A B : Type 0} (g h : A → B) (l : List A) (d : A) → ((j : ℕ) → j < length l → h (get_or l j d) ≡ g (get_or l j d)) → map h l ≡ map g l
map_same g h [] d e = refl
map_same g h (x ∷ l) d e = rw (e 0 (omega arith), map_same g h l d (λ j b. e (suc j) (omega arith)))

-- of which one element changes, with the function
map_change : {A B : Type 0} (g h : A → B) (l : List A) (f : ℕ) (v d : A) → ((j : ℕ) → j < length l → (j ≡ f → ⊥) → h (get_or l j d) ≡ g (get_or l j d))
    → map h (set l f v) ≡ set (map g l) f (h v)
map_change g h [] f v d e = refl
map_change g h (x ∷ l) zero v d e = ap (λ r. h v ∷ r) (map_same g h l d (λ j b. e (suc j) (omega arith) (λ z. absurd (omega arith))))
map_change g h (x ∷ l) (suc f) v d e =
    rw (e 0 (omega arith) (λ z. absurd (omega arith)), map_change g h l f v d (λ j b n. e (suc j) (omega arith) (λ z. n (omega arith))))

-- ---- the shelf

pub shelf_length : (n : ℕ) (t : Tables) → n ≤ length t.place → length (shelf_of n t) ≡ n
unfolding shelf_of
shelf_length n t h = length-map (take n t.place) (slot_of t) ∙ length-take-le n t.place h

-- the slot of a file is its place's
pub shelf_at : (n : ℕ) (t : Tables) (f : ℕ) → f < n → n ≤ length t.place → get_or (shelf_of n t) f none ≡ slot_of t (get_or t.place f 0)
unfolding shelf_of
shelf_at n t f h l = map_at (slot_of t) (take n t.place) f 0 none (omega (arith, length-take-le n t.place l)) ∙ ap (slot_of t) (get_or-take n t.place f 0 h)

-- u is t with the record at place p and the place of file f changed, and no other file has place p: one slot changes
pub shelf_change : (n : ℕ) (t u : Tables) (f v p : ℕ) → f < n → n ≤ length t.place → u.place ≡ set t.place f v
    → ((k : ℕ) → (k ≡ p → ⊥) → record_at u k ≡ record_at t k) → ((j : ℕ) → j < n → (j ≡ f → ⊥) → get_or t.place j 0 ≡ p → ⊥)
    → shelf_of n u ≡ set (shelf_of n t) f (slot_of u v)
unfolding shelf_of
shelf_change n t u f v p h l e other own =
    ap (λ r. map (slot_of u) (take n r)) e ∙ ap (map (slot_of u)) (take-set-lt n t.place f v h)
    ∙ map_change (slot_of t) (slot_of u) (take n t.place) f v 0 (λ j b ne. rw (get_or-take n t.place j 0 (inside j b)) (slot_same t u (get_or t.place j 0) (other _ (own j (inside j b) ne))))
  where
    inside : (j : ℕ) → j < length (take n t.place) → j < n
    inside j b = omega (arith, length-take-le n t.place l)

-- the shelf does not look at the queue nor at the files of the places
pub shelf_queue : (n : ℕ) (t u : Tables) → t.place ≡ u.place → t.size ≡ u.size → t.cost ≡ u.cost → t.freq ≡ u.freq → t.key ≡ u.key → t.stamp ≡ u.stamp → shelf_of n t ≡ shelf_of n u
unfolding shelf_of slot_of
shelf_queue n t u a b c d e f =
    λ i. map
    (λ p. pick (eqb p no_place) none (kept (record { size = get_or (b i) p 0; cost = get_or (c i) p 0; freq = get_or (d i) p 0; key = get_or (e i) p 0; stamp = get_or (f i) p 0 })))
    (take n (a i))

-- cleared tables stand for an empty shelf
pub fresh_shelf : (places n : ℕ) (t : Tables) → shelf_of n (cleared places n t) ≡ replicate n none
unfolding shelf_of
fresh_shelf places n t =
    let u = cleared places n t in
    ap (map (slot_of u)) (take_filled n no_place t.place) ∙ map_replicate (slot_of u) n no_place ∙ ap (replicate n) (slot_none u no_place refl)
