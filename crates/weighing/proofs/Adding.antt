-- Sums over the shelf, read by the places of its files: one file more, the lists that a sum does not look at, and bounds. Assumes nothing.
use mathlib.Core.Path.{◌≡◌, refl, sym, ap, ◌∙◌}
use mathlib.Core.Logic.{◌⊎◌, ⊎_elim}
use mathlib.Core.Bool.{Bool, true, false}
use mathlib.Core.List.{List, [], ◌∷◌, ◌++◌, map}
use Prim.Native.Nat.{ℕ, suc, ◌+◌, ◌*◌, ◌/◌, ◌≤◌, ◌<◌}
use native.Mathlib.Numerals.{add-one}
use native.Mathlib.Omega.{arith}
use native.Mathlib.Nat.{suc-mul}
use lib.Dec.{eqb}
use lib.ListN.{length, get_or, take}
use lib.Seq.{take-suc}
use Rattle.amounts.specs.Limits.{pick, lift, no_place}
use Rattle.amounts.proofs.Values.{product_lift}
use Rattle.method.specs.Shelf.{Kept, Slot, none, kept, Shelf, weigh, sum, product}
use Rattle.tables.specs.Tables.{Tables, record_at, slot_of, shelf_of}
use Rattle.tables.proofs.Shelves.{slot_none, slot_kept}
use Rattle.weighing.specs.Weighing.{Weighable}

-- the largest 32-bit number, which an entry of a table by place can have
abbrev pub entry_most : ℕ
entry_most = 4294967295

-- ---- one file more

sum_snoc : (f : Kept → ℕ) (s : Shelf) (x : Slot) → sum f (s ++ (x ∷ [])) ≡ sum f s + weigh f x
unfolding sum
sum_snoc f [] x = omega arith
sum_snoc f (y ∷ s) x = omega (arith, sum_snoc f s x)

map_snoc : {A B : Type 0} (g : A → B) (l : List A) (x : A) → map g (l ++ (x ∷ [])) ≡ map g l ++ (g x ∷ [])
map_snoc g [] x = refl
map_snoc g (y ∷ l) x = ap (λ r. g y ∷ r) (map_snoc g l x)

module _ (f : Kept → ℕ) (t : Tables) where
  pub sum_nobody : sum f (shelf_of 0 t) ≡ 0
  unfolding shelf_of sum
  sum_nobody = refl

  sum_more : (n : ℕ) → n < length t.place → sum f (shelf_of (suc n) t) ≡ sum f (shelf_of n t) + weigh f (slot_of t (get_or t.place n 0))
  unfolding shelf_of
  sum_more n h =
      let x : ℕ = get_or t.place n 0 in
      let s : shelf_of (suc n) t ≡ shelf_of n t ++ (slot_of t x ∷ []) = ap (map (slot_of t)) (take-suc t.place n 0 h) ∙ map_snoc (slot_of t) (take n t.place) x in
      ap (sum f) s ∙ sum_snoc f (shelf_of n t) (slot_of t x)

  module _ (n : ℕ) (h : n < length t.place) where
    more_none : get_or t.place n 0 ≡ no_place → sum f (shelf_of (suc n) t) ≡ sum f (shelf_of n t)
    more_none e = omega (arith, sum_more n h, ap (weigh f) (slot_none t (get_or t.place n 0) e))

    more_some : (get_or t.place n 0 ≡ no_place → ⊥) → sum f (shelf_of (suc n) t) ≡ sum f (shelf_of n t) + f (record_at t (get_or t.place n 0))
    more_some ne = omega (arith, sum_more n h, ap (weigh f) (slot_kept t (get_or t.place n 0) ne))

    -- a running sum, where the file has a place and where it has none
    pub sum_none : {v w : ℕ} → v ≡ sum f (shelf_of n t) → get_or t.place n 0 ≡ no_place → w ≡ v → w ≡ sum f (shelf_of (n + 1) t)
    sum_none a e b = rw add-one (omega (arith, more_none e))

    pub sum_some : {v w : ℕ} → v ≡ sum f (shelf_of n t) → (get_or t.place n 0 ≡ no_place → ⊥) → w ≡ v + f (record_at t (get_or t.place n 0)) → w ≡ sum f (shelf_of (n + 1) t)
    sum_some a ne b = rw add-one (omega (arith, more_some ne))

-- ---- a sum looks at the lists that its f reads, and at no other

module _ (f g : Kept → ℕ) (t u : Tables) (like : (p : ℕ) → f (record_at t p) ≡ g (record_at u p)) where
  weigh_same : (p : ℕ) → weigh f (slot_of t p) ≡ weigh g (slot_of u p)
  unfolding slot_of
  weigh_same p = go (eqb p no_place)
    where
      go : (b : Bool) → weigh f (pick b none (kept (record_at t p))) ≡ weigh g (pick b none (kept (record_at u p)))
      go true = refl
      go false = like p

  sum_map : (l : List ℕ) → sum f (map (slot_of t) l) ≡ sum g (map (slot_of u) l)
  unfolding sum
  sum_map [] = refl
  sum_map (p ∷ l) = omega (arith, weigh_same p, sum_map l)

  pub sum_same : (n : ℕ) → t.place ≡ u.place → sum f (shelf_of n t) ≡ sum g (shelf_of n u)
  unfolding shelf_of
  sum_same n e = sum_map (take n t.place) ∙ ap (λ (l : List ℕ). sum g (map (slot_of u) (take n l))) e

-- ---- a sum file by file, each adding at most so much

module _ (g : Kept → ℕ) (most : ℕ) (t : Tables) where
  pub record SumTo (f v : ℕ) : Type 0 where
    pub is : v ≡ sum g (shelf_of f t)
    pub small : v ≤ f * most

  pub to_nobody : SumTo 0 0
  to_nobody = record { is = sym (sum_nobody g t); small = omega arith }

  module _ {f v w : ℕ} (s : SumTo f v) (h : f < length t.place) where
    pub to_none : get_or t.place f 0 ≡ no_place → w ≡ v → SumTo (f + 1) w
    to_none e b = record { is = sum_none g t f h s.is e b; small = rw add-one (omega (arith, s.small, suc-mul f most)) }

    pub to_some : (get_or t.place f 0 ≡ no_place → ⊥) → g (record_at t (get_or t.place f 0)) ≤ most → w ≡ v + g (record_at t (get_or t.place f 0)) → SumTo (f + 1) w
    to_some ne l b = record { is = sum_some g t f h s.is ne b; small = rw add-one (omega (arith, s.small, suc-mul f most)) }

-- ---- the products

-- where a file has a place, what is said of that place
pub placed : {P : Type 0} {p : ℕ} → (p ≡ no_place → ⊥) → (p ≡ no_place) ⊎ P → P
placed ne x = ⊎_elim (λ e. absurd (ne e)) (λ h. h) x

-- its product is below one lift
pub product_below : {n : ℕ} (t : Tables) → Weighable n t → (f : ℕ) → f < n → (get_or t.place f 0 ≡ no_place → ⊥) → {m : ℕ}
    → m ≡ product (record_at t (get_or t.place f 0)) → m < lift
product_below {n} t a f h ne e =
    let p : ℕ = get_or t.place f 0 in
    omega (arith, e, product_lift (get_or t.freq p 0) (get_or t.size p 0) (get_or t.cost p 0) (placed ne (a.valued f h)).1 (placed ne (a.seldom f h)))

-- a number to which the products are added file by file: each brings at most one lift more
module _ (start : ℕ) (t : Tables) where
  pub record Adding (f w : ℕ) : Type 0 where
    pub is : w ≡ start + sum product (shelf_of f t)
    pub small : sum product (shelf_of f t) ≤ f * lift

  pub run_nobody : Adding 0 start
  run_nobody = record { is = omega (arith, sum_nobody product t); small = omega (arith, sum_nobody product t) }

  module _ {f w : ℕ} (s : Adding f w) where
    -- its lifts are few: no more than it began with, and one for each file
    pub run_few : w / lift ≤ start / lift + f
    run_few = omega (arith, s.is, s.small)

    module _ (h : f < length t.place) where
      pub run_none : get_or t.place f 0 ≡ no_place → Adding (f + 1) w
      run_none e =
          let same : sum product (shelf_of f t) ≡ sum product (shelf_of (f + 1) t) = sum_none product t f h refl e refl in
          record { is = omega (arith, s.is, same); small = omega (arith, s.small, same) }

      pub run_some : {m w' : ℕ} → (get_or t.place f 0 ≡ no_place → ⊥) → m ≡ product (record_at t (get_or t.place f 0)) → m < lift → w' ≡ w + m → Adding (f + 1) w'
      run_some {m} ne e l x =
          let more : sum product (shelf_of f t) + m ≡ sum product (shelf_of (f + 1) t) = sum_some product t f h refl ne (ap (λ (k : ℕ). sum product (shelf_of f t) + k) e) in
          record { is = omega (arith, s.is, x, more); small = omega (arith, s.small, more) }
