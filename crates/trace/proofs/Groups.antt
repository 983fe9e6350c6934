-- Laws of a number in the course of being read. Assumes nothing.
use Prim.Native.Nat.{ℕ, zero, suc, ◌+◌, ◌*◌, ◌-◌, ◌%◌, ◌^◌, ◌≤◌, ◌<◌}
use mathlib.Core.Path.{◌≡◌, refl, ap, sym, subst, ◌∙◌}
use mathlib.Core.Logic.{⊎_elim}
use mathlib.Core.List.{List, [], ◌∷◌}
use mathlib.Core.Bool.{Bool, true, false}
use native.Mathlib.Omega.{arith}
use native.Mathlib.Numerals.{add-one}
use native.Mathlib.Nat.{mul-le-mul_right, pow-le-pow_right, pow-suc, add-mul, mul_assoc}
use lib.ListN.{length, drop, get_or, drop_of_length-le}
use lib.Seq.{drop-cons}
use borrow.Author.Tests.{ne_eqb, eq-eqb, eqb-true, eqb-false, lt-ltb, le-ltb}
use lib.Dec.{ltb, eqb, lit<, lit≤}
use Rattle.trace.specs.Number.{Num, num, bad, groups, before, decode}
use Rattle.amounts.proofs.Tests.{below}
use Rattle.trace.specs.Steps.{Numbered, NumberAt}

-- a number in the course of being read: `count` groups, of less than `scale` together
pub record Group : Type 0 where
  pub value : ℕ
  pub scale : ℕ
  pub count : ℕ

pub record Fine (g : Group) : Type 0 where
  pub below : g.value < g.scale
  pub scaled : g.scale ≡ 128 ^ g.count
  pub few : g.count ≤ 6

-- its value with one group more, and the number with a group that is not the last
abbrev pub with_group : Group → ℕ → ℕ
with_group g b = g.value + (b % 128) * g.scale

abbrev pub next_group : Group → ℕ → Group
next_group g b = record { value = with_group g b; scale = g.scale * 128; count = g.count + 1 }

module _ (g : Group) (fine : Fine g) (b : ℕ) where
  small_scale : g.scale ≤ 2 ^ 42
  small_scale = rw fine.scaled (pow-le-pow_right {n = 128} (lit≤ tt) {i = g.count} {j = 6} (omega (arith, fine.few)))

  pub product : (b % 128) * g.scale ≤ 127 * g.scale
  product = mul-le-mul_right g.scale (omega arith)

  pub product_fits : (b % 128) * g.scale < 2 ^ 63
  product_fits = omega (arith, small_scale, product)

  pub value_fits : with_group g b < 2 ^ 63
  value_fits = omega (arith, small_scale, product, fine.below)

  pub scale_fits : g.scale * 128 < 2 ^ 63
  scale_fits = omega (arith, small_scale)

  -- what comes of a fine number is fine
  pub fine_next : g.count < 6 → Fine (next_group g b)
  fine_next h =
      record {
        below = omega (arith, product, fine.below);
        scaled = rw (add-one, pow-suc, ← fine.scaled);
        few = omega (arith, h);
      }

-- what the whole number is, where the groups read so far make v of less than p, and x is what the rest spell
abbrev pub finish : ℕ → ℕ → Num → Num
finish v p (num w rest) = num (v + w * p) rest
finish v p bad = bad

finish_before : (v p b : ℕ) (x : Num) → finish v p (before b x) ≡ finish (v + (b % 128) * p) (p * 128) x
finish_before v p b (num w rest) = ap (λ (k : ℕ). num k rest) (omega (arith, add-mul (b % 128) (128 * w) p, mul_assoc 128 w p, mul_assoc w p 128))
finish_before v p b bad = refl

-- the number that g, with the bytes that are left, comes to
abbrev pub pend : Group → List ℕ → Num
pend g s = finish g.value g.scale (groups (6 - g.count) (eqb g.count 0) s)

abbrev pub fresh : Group
fresh = record { value = 0; scale = 1; count = 0 }

pub pend_fresh : (s : List ℕ) → pend fresh s ≡ decode s
pend_fresh s = go (decode s)
  where
    go : (x : Num) → finish 0 1 x ≡ x
    go (num w rest) = ap (λ (k : ℕ). num k rest) (omega arith)
    go bad = refl

pub pend_nil : (g : Group) → pend g [] ≡ bad
pend_nil g = go (6 - g.count)
  where
    go : (k : ℕ) → finish g.value g.scale (groups k (eqb g.count 0) []) ≡ bad
    go zero = refl
    go (suc k) = refl

-- after six groups no group may follow
pub pend_over : (g : Group) → g.count ≡ 6 → (s : List ℕ) → pend g s ≡ bad
pend_over g e s = let z : 6 - g.count ≡ 0 = omega arith in rw z

module _ (g : Group) (few : g.count < 6) (b : ℕ) (s : List ℕ) where
  left : 6 - g.count ≡ suc (5 - g.count)
  left = omega arith

  pub pend_on : 128 ≤ b → pend g (b ∷ s) ≡ pend (next_group g b) s
  pend_on h =
      let left' : 6 - (g.count + 1) ≡ 5 - g.count = omega arith in
      let later : eqb (g.count + 1) 0 ≡ false = ne_eqb (g.count + 1) 0 (λ e. omega arith) in
      rw left (simp (le-ltb b 128 h, left', later) (finish_before g.value g.scale b (groups (5 - g.count) false s)))

  pub pend_last : b < 128 → (b ≡ 0 → 0 < g.count → ⊥) → pend g (b ∷ s) ≡ num (with_group g b) s
  pend_last h only = rw left (go (eqb b 0) refl (eqb g.count 0) refl)
    where
      go : (z : Bool) → eqb b 0 ≡ z → (f : Bool) → eqb g.count 0 ≡ f → finish g.value g.scale (groups (suc (5 - g.count)) (eqb g.count 0) (b ∷ s)) ≡ num (with_group g b) s
      go true e₁ true e₂ = simp (lt-ltb b 128 h, e₂)
      go true e₁ false e₂ = let ne = eqb-false g.count 0 e₂ in absurd (only (eqb-true b 0 e₁) (⊎_elim (λ (k : 0 < g.count). k) (λ k. absurd (ne (omega (arith, k)))) (below 0 g.count)))
      go false e₁ true e₂ = simp (lt-ltb b 128 h, e₂)
      go false e₁ false e₂ = simp (lt-ltb b 128 h, e₁, e₂)

  pub pend_zero : b ≡ 0 → 0 < g.count → pend g (b ∷ s) ≡ bad
  pend_zero e h =
      let small : ltb b 128 ≡ true = lt-ltb b 128 (omega arith) in
      let none : eqb b 0 ≡ true = eq-eqb b 0 e in
      let later : eqb g.count 0 ≡ false = ne_eqb g.count 0 (λ k. omega arith) in
      rw left (simp (small, none, later))

pub fresh_fine : Fine fresh
fresh_fine = record { below = lit< tt; scaled = refl; few = lit≤ tt }

pub at_drop : (part : List ℕ) (at : ℕ) → at < length part → drop at part ≡ get_or part at 0 ∷ drop (at + 1) part
at_drop part at h = rw (add-one, drop-cons part at 0)

pub pend_end : (part : List ℕ) (g : Group) (at : ℕ) → length part ≤ at → pend g (drop at part) ≡ bad
pend_end part g at h = rw (drop_of_length-le part {i = at} h) (pend_nil g)

-- the number at a place is what g and the bytes from i on come to
pub record Pending (part : List ℕ) (at i : ℕ) (g : Group) : Type 0 where
  pub fine : Fine g
  pub same : decode (drop at part) ≡ pend g (drop i part)

pub pending_first : (part : List ℕ) (at : ℕ) → Pending part at at fresh
pending_first part at = record { fine = fresh_fine; same = sym (pend_fresh (drop at part)) }

module _ (part : List ℕ) (at i : ℕ) (g : Group) (p : Pending part at i g) (few : g.count < 6) (inside : i < length part) where
  pub pending_next : 128 ≤ get_or part i 0 → Pending part at (i + 1) (next_group g (get_or part i 0))
  pending_next h = record { fine = fine_next g p.fine (get_or part i 0) few; same = p.same ∙ rw (at_drop part i inside) (pend_on g few (get_or part i 0) (drop (i + 1) part) h) }

  pub pending_number : get_or part i 0 < 128 → (get_or part i 0 ≡ 0 → 0 < g.count → ⊥) → NumberAt part at (record { value = with_group g (get_or part i 0); next = i + 1 })
  pending_number h only = record { spelt = p.same ∙ rw (at_drop part i inside) (pend_last g few (get_or part i 0) (drop (i + 1) part) h only); inside = omega (arith, inside) }

  pub pending_zero : get_or part i 0 ≡ 0 → 0 < g.count → decode (drop at part) ≡ bad
  pending_zero e h = p.same ∙ rw (at_drop part i inside) (pend_zero g few (get_or part i 0) (drop (i + 1) part) e h)

-- a number that has no end
pub pending_none : (part : List ℕ) (at i : ℕ) (g : Group) → Pending part at i g → (g.count < 6 → length part ≤ i) → decode (drop at part) ≡ bad
pending_none part at i g p h =
    ⊎_elim (λ few. p.same ∙ pend_end part g i (h few)) (λ many. p.same ∙ pend_over g (omega (arith, many, p.fine.few)) (drop i part)) (below g.count 6)

-- the number that is read from a place on, where so many groups are read and the byte behind them is the next
module _ (part : List ℕ) (at group value scale : ℕ) where
  abbrev so_far : Group
  so_far = record { value = value; scale = scale; count = group }

  module _ (p : Pending part at (at + group) so_far) (few : group < 6) (inside : at + group < length part) where
    abbrev b : ℕ
    b = get_or part (at + group) 0

    pub reading_more : 128 ≤ b → Pending part at (at + (group + 1)) (record { value = with_group so_far b; scale = scale * 128; count = group + 1 })
    reading_more h =
        let e : (at + group) + 1 ≡ at + (group + 1) = omega arith in
        subst (λ (i : ℕ). Pending part at i (next_group so_far b)) e (pending_next part at (at + group) so_far p few inside h)

    pub reading_last : b < 128 → (b ≡ 0 → 0 < group → ⊥) → NumberAt part at (record { value = with_group so_far b; next = (at + group) + 1 })
    reading_last h only = pending_number part at (at + group) so_far p few inside h only

    pub reading_zero : b ≡ 0 → 0 < group → decode (drop at part) ≡ bad
    reading_zero e h = pending_zero part at (at + group) so_far p few inside e h

  pub reading_none : Pending part at (at + group) so_far → (group < 6 → length part ≤ at + group) → decode (drop at part) ≡ bad
  reading_none p h = pending_none part at (at + group) so_far p h

-- where there is a number, reading it never ends badly
module _ (part : List ℕ) (at : ℕ) (there : Numbered part at) (i : ℕ) (g : Group) (p : Pending part at i g) where
  not_bad : decode (drop at part) ≡ bad → ⊥
  not_bad e = let s = there.spelt in let n : ◌≡◌ {A = ℕ} 0 1 = cc in omega arith

  few_there : g.count < 6
  few_there = ⊎_elim (λ h. h) (λ h. absurd (not_bad (pending_none part at i g p (λ k. absurd (omega (arith, k, h)))))) (below g.count 6)

  pub pending_inside : i < length part
  pending_inside = ⊎_elim (λ h. h) (λ h. absurd (not_bad (pending_none part at i g p (λ k. h)))) (below i (length part))

  pub pending_on : 128 ≤ get_or part i 0 → Pending part at (i + 1) (next_group g (get_or part i 0))
  pending_on h = pending_next part at i g p few_there pending_inside h

  pub pending_last : get_or part i 0 < 128 → NumberAt part at (record { value = with_group g (get_or part i 0); next = i + 1 })
  pending_last h = pending_number part at i g p few_there pending_inside h (λ e k. not_bad (pending_zero part at i g p few_there pending_inside e k))
