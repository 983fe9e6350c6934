-- A ratio lies within 2 ^ -54 of the fraction of its counts: half of the distance between two doubles from 1 / 2 to 1. Assumes nothing.
use mathlib.Core.Path.{◌≡◌, refl, sym, ap, ◌∙◌, subst}
use mathlib.Core.Logic.{inl, inr}
use mathlib.Core.Bool.{not, false}
use Prim.Native.Nat.{ℕ, suc, ◌+◌, ◌-◌, ◌*◌, ◌/◌, ◌%◌, ◌^◌, ◌≤◌, ◌<◌, compare, Ordering}
use native.Mathlib.Nat.{le_trans, le_of_eq, lt_of_lt_of_le, eq-or-lt_of_le, mod-lt, div-add-mod', div-lt_iff_lt-mul}
use native.Mathlib.Nat.{mul_comm, mul_assoc, mul_left_comm, mul_right_comm, mul-pos, mul-le-mul_left, mul-le-mul_right, mul-lt-mul_of_pos_right, le_of_mul-le-mul_right, add-mul, suc-mul}
use native.Mathlib.Omega.{arith}
use lib.Dec.{T, is_le, compare_is_eq, eqb, leb→le, nleb→lt, eqb→eq, eqb_refl}
use lib.Arith.{lt_of_le-ne}
use lib.Pow.{pow_pos, pow_mono}
use lib.Ieee.{Float, binary64, nearest, size}
use lib.Ieee.Digits.{size-le}
use lib.Ieee.Exact.{HasValue}
use lib.Ieee.Nearest.{closest}
use lib.Ieee.Order.{drop}
use lib.Ieee.Scale.{round_val, round_under}
use lib.Ieee.Positive.{num, den, value→cross}
use Rattle.ratios.specs.Quotient.{quotient, Part}
use Rattle.ratios.specs.Fair.{Close, nearness}
use Rattle.ratios.proofs.Laws.{one_f, all_hit, is_finite}

-- ---- what `compare` says
abbrev Cmp : Ordering → ℕ → ℕ → Type 0
Cmp Ordering.lt a b = a < b
Cmp Ordering.eq a b = a ≡ b
Cmp Ordering.gt a b = b < a

cmp : (a b : ℕ) → Cmp (compare a b) a b
cmp a b = go (compare a b) (leb→le a b) (nleb→lt a b) (eqb→eq a b) (λ (e : a ≡ b). subst (λ (x : ℕ). T (eqb a x)) e (eqb_refl a))
  where
    go : (o : Ordering) → (T (is_le o) → a ≤ b) → (T (not (is_le o)) → b < a) → (T (compare_is_eq o) → a ≡ b) → (a ≡ b → T (compare_is_eq o)) → Cmp o a b
    go Ordering.lt h k e n = lt_of_le-ne (h tt) n
    go Ordering.eq h k e n = e tt
    go Ordering.gt h k e n = k tt

-- ---- the nearest whole number to n / u, times u, is within half of u of n
record Half (c n u : ℕ) : Type 0 where
  over : c * u * 2 ≤ n * 2 + u
  under : n * 2 ≤ c * u * 2 + u

half : (o : Ordering) (q r u n : ℕ) → Cmp o (r * 2) u → q * u + r ≡ n → r < u → Half (nearest q o) n u
half Ordering.lt q r u n x e l = record { over = omega arith; under = omega arith }
half Ordering.eq q r u n x e l =
    let d : (q + q % 2) * u ≡ q * u + q % 2 * u = add-mul q (q % 2) u in
    let m : q % 2 * u ≤ 1 * u = mul-le-mul_right u (omega arith) in
    record { over = omega arith; under = omega arith }
half Ordering.gt q r u n x e l = let d : suc q * u ≡ q * u + u = suc-mul q u in record { over = omega arith; under = omega arith }

closest_half : (n u : ℕ) → 0 < u → Half (closest n u) n u
closest_half n u U = half (compare (n % u * 2) u) (n / u) (n % u) u n (cmp (n % u * 2) u) (div-add-mod' n u) (mod-lt n U)

-- ---- from units to the value: x / d is g / l, and g / l is within k / (2 * l) of a / c
record Setup (x d g l a c k p q : ℕ) : Type 0 where
  value : x * l ≡ g * d
  over : g * c * 2 ≤ a * l * 2 + c * k
  under : a * l * 2 ≤ g * c * 2 + c * k
  fine : k ≤ p
  unit : l * 2 ≡ q * p
  some : 0 < p

module _ (x d g l a c k p q : ℕ) (s : Setup x d g l a c k p q) where
  left : x * c * q * p ≡ g * c * 2 * d
  left =
      let e : x * l * (c * 2) ≡ g * d * (c * 2) = ap (λ (z : ℕ). z * (c * 2)) s.value in
      let f : x * c * (l * 2) ≡ x * c * (q * p) = ap (λ (z : ℕ). x * c * z) s.unit in
      let a1 : x * c * q * p ≡ x * c * (q * p) = mul_assoc (x * c) q p in
      let a2 : x * c * (l * 2) ≡ x * l * (c * 2) = simp (mul_assoc, mul_comm, mul_left_comm) in
      let a3 : g * d * (c * 2) ≡ g * c * 2 * d = simp (mul_assoc, mul_comm, mul_left_comm) in
      a1 ∙ sym f ∙ a2 ∙ e ∙ a3

  right : a * d * q * p ≡ a * l * 2 * d
  right =
      let f : a * d * (l * 2) ≡ a * d * (q * p) = ap (λ (z : ℕ). a * d * z) s.unit in
      let a2 : a * d * (l * 2) ≡ a * l * 2 * d = simp (mul_assoc, mul_comm, mul_left_comm) in
      mul_assoc (a * d) q p ∙ sym f ∙ a2

  rest : c * k * d ≤ c * d * p
  rest = le_trans (mul-le-mul_right d (mul-le-mul_left c s.fine)) (le_of_eq (mul_right_comm c p d))

  close : Close q x d a c
  close =
      let o : g * c * 2 * d ≤ (a * l * 2 + c * k) * d = mul-le-mul_right d s.over in
      let o' : (a * l * 2 + c * k) * d ≡ a * l * 2 * d + c * k * d = add-mul (a * l * 2) (c * k) d in
      let u : a * l * 2 * d ≤ (g * c * 2 + c * k) * d = mul-le-mul_right d s.under in
      let u' : (g * c * 2 + c * k) * d ≡ g * c * 2 * d + c * k * d = add-mul (g * c * 2) (c * k) d in
      let m : (a * d * q + c * d) * p ≡ a * d * q * p + c * d * p = add-mul (a * d * q) (c * d) p in
      let n : (x * c * q + c * d) * p ≡ x * c * q * p + c * d * p = add-mul (x * c * q) (c * d) p in
      let b : x * c * q * p ≤ (a * d * q + c * d) * p = omega (arith, left, right, rest) in
      let e : a * d * q * p ≤ (x * c * q + c * d) * p = omega (arith, left, right, rest) in
      record { over = le_of_mul-le-mul_right b s.some; under = le_of_mul-le-mul_right e s.some }

-- ---- a quotient below 1 drops 1021 digits at most
few : (z : ℕ) → z ≤ 1074 → z - 53 ≤ 1021
few z h = omega arith

dropped : (a n : ℕ) → a < n → drop 53 (a * 2 ^ 1074) n ≤ 1021
dropped a n h =
    few (size (a * 2 ^ 1074 / n)) (size-le (a * 2 ^ 1074 / n) 1074 ((div-lt_iff_lt-mul (pos a n h)).1 (lt_of_lt_of_le (mul-lt-mul_of_pos_right h (pow_pos 1074)) (le_of_eq (mul_comm n (2 ^ 1074))))))
  where
    pos : (a n : ℕ) → a < n → 1 ≤ n
    pos a n h = omega arith

near_below : (a n : ℕ) → a < n → Close nearness (num (quotient a n)) (den (quotient a n)) a n
near_below a n h =
    let N : 1 ≤ n = omega arith in
    let k = drop 53 (a * 2 ^ 1074) n in
    let u = n * 2 ^ k in
    let m = closest (a * 2 ^ 1074) u in
    let H : Half m (a * 2 ^ 1074) u = closest_half (a * 2 ^ 1074) u (mul-pos N (pow_pos k)) in
    let v : HasValue (quotient a n) false (m * 2 ^ k) (2 ^ 1074) = round_val binary64 a n (round_under binary64 a n (is_finite a n N (omega arith))) in
    let e : m * u * 2 ≡ m * 2 ^ k * n * 2 = ap (λ (z : ℕ). z * 2) (ap (λ (z : ℕ). m * z) (mul_comm n (2 ^ k)) ∙ sym (mul_assoc m (2 ^ k) n)) in
    close (num (quotient a n)) (den (quotient a n)) (m * 2 ^ k) (2 ^ 1074) a n (2 ^ k) (2 ^ 1021) nearness
    (record {
      value = value→cross (quotient a n) (m * 2 ^ k) (2 ^ 1074) v;
      over = le_trans (le_of_eq (sym e)) H.over;
      under = le_trans H.under (le_of_eq (ap (λ (z : ℕ). z + u) e));
      fine = pow_mono (dropped a n h);
      unit = refl;
      some = pow_pos 1021;
    })

at_one : (n : ℕ) → Close nearness (num one_f) (den one_f) n n
at_one n = record { over = omega arith; under = omega arith }

pub near : (a n : ℕ) → Part a n → Close nearness (num (quotient a n)) (den (quotient a n)) a n
near a n p =
    elim (eq-or-lt_of_le p.within) [
      | inl e ↦ subst (λ (z : ℕ). Close nearness (num (quotient z n)) (den (quotient z n)) z n) (sym e) near_one
      | inr l ↦ near_below a n l
    ]
  where
    near_one : Close nearness (num (quotient n n)) (den (quotient n n)) n n
    near_one = subst (λ (r : Float). Close nearness (num r) (den r) n n) (sym (all_hit n p.some)) (at_one n)
