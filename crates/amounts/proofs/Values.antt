-- The laws of the product and of the cost in force. Assumes nothing.
use mathlib.Core.Path.{◌≡◌, ap}
use mathlib.Core.Logic.{⊎_elim}
use mathlib.Core.Bool.{true}
use Prim.Native.Nat.{ℕ, zero, suc, ◌+◌, ◌*◌, ◌/◌, ◌≤◌, ◌<◌}
use native.Mathlib.Omega.{arith}
use native.Mathlib.Nat.{div-zero, div-le_self, div-mul-le_self, add-mul-div_right, le-div_iff_mul-le, mul-le-mul, mul-le-mul_left, mul-le-mul_right, one-le-mul, one-mul, suc-mul, le_trans}
use borrow.Author.Tests.{eq-eqb, ne_eqb, leb-true}
use Rattle.amounts.specs.Limits.{size_most, cost_most, is_size, is_cost, frequency_most, lift, word}
use Rattle.amounts.specs.Worth.{scale, worth_of, worth_most, product_of, packets, in_force, Valued}
use Rattle.amounts.proofs.Tests.{one_to_lem, same, pick_true, pick_false}

-- a cost in range, at the scale, is at most the largest worth
pub scaled_most : (cost : ℕ) → cost ≤ cost_most → cost * scale ≤ worth_most
scaled_most cost h = omega arith

-- a quotient is at most what bounds the number that is divided, and no smaller for a larger one
pub quotient_most : (n size m : ℕ) → n ≤ m → n / size ≤ m
quotient_most n size m h = le_trans (div-le_self n size) h

quotient_rises : (size n m : ℕ) → n ≤ m → n / size ≤ m / size
quotient_rises zero n m h = omega (arith, div-zero n, div-zero m)
quotient_rises (suc k) n m h = (le-div_iff_mul-le {k = suc k} (omega arith)).1 (le_trans (div-mul-le_self n (suc k)) h)

-- a frequency in range times what is at most the largest worth fits a word
pub times_fits : (f n : ℕ) → f ≤ frequency_most → n ≤ worth_most → f * n < word
times_fits f n h k = omega (arith, mul-le-mul h k)

-- why no operation of the product overflows, in whatever order they are done
pub ruleset fitting = (scaled_most, quotient_most, times_fits)

-- the product lies between 1 and frequency × the largest worth
pub product_least : (f size cost : ℕ) → 1 ≤ f → Valued size cost → 1 ≤ product_of f size cost
unfolding product_of
product_least f size cost h v = (le-div_iff_mul-le v.size_least).1 (omega (arith, v.size_at_most, one-le-mul h v.cost_least))

pub product_most : (f size cost : ℕ) → Valued size cost → product_of f size cost ≤ f * worth_most
unfolding product_of
product_most f size cost v = quotient_most _ size _ (mul-le-mul_left f (scaled_most cost v.cost_at_most))

-- document 02, ticket 5: with a frequency in range it is below one lift
pub product_lift : (f size cost : ℕ) → Valued size cost → f ≤ frequency_most → product_of f size cost < lift
product_lift f size cost v h = omega (arith, product_most f size cost v)

-- more frequency, no smaller product; one hit more adds at most the largest worth
pub product_rises : (f g size cost : ℕ) → f ≤ g → product_of f size cost ≤ product_of g size cost
unfolding product_of
product_rises f g size cost h = quotient_rises size _ _ (mul-le-mul_right (cost * scale) h)

pub product_more : (f size cost : ℕ) → Valued size cost → product_of (suc f) size cost ≤ product_of f size cost + worth_most
unfolding product_of
product_more f size cost v =
    let once : cost * scale ≤ worth_most * size = omega (arith, v.cost_at_most, v.size_least) in
    let more : suc f * (cost * scale) ≤ f * (cost * scale) + worth_most * size = omega (arith, suc-mul f (cost * scale), once) in
    omega (arith, quotient_rises size _ _ more, add-mul-div_right (f * (cost * scale)) worth_most v.size_least)

-- once is the worth itself
pub product_once : (size cost : ℕ) → product_of 1 size cost ≡ worth_of size cost
unfolding product_of worth_of
product_once size cost = ap (λ (n : ℕ). n / size) (one-mul (cost * scale))

-- the cost in force, by the cost that the request holds
pub in_force_zero : (size cost : ℕ) → cost ≡ 0 → in_force size cost ≡ packets size
unfolding in_force
in_force_zero size cost e = pick_true (packets size) cost (eq-eqb cost 0 e)

pub in_force_some : (size cost : ℕ) → (cost ≡ 0 → ⊥) → in_force size cost ≡ cost
unfolding in_force
in_force_some size cost ne = pick_false (packets size) cost (ne_eqb cost 0 ne)

-- it is in range where the size and the cost of the request are
pub in_force_valued : (size cost : ℕ) → is_size size ≡ true → is_cost cost ≡ true → Valued size (in_force size cost)
unfolding packets
in_force_valued size cost hs hc =
    let s : (1 ≤ size) × (size ≤ size_most) = one_to_lem size_most size hs in
    let c : cost ≤ cost_most = leb-true cost cost_most hc in
    ⊎_elim
    (λ e. rw (in_force_zero size cost e) (record { size_least = s.0; size_at_most = s.1; cost_least = omega arith; cost_at_most = omega (arith, s.1) }))
    (λ ne. rw (in_force_some size cost ne) (record { size_least = s.0; size_at_most = s.1; cost_least = omega arith; cost_at_most = c }))
    (same cost 0)
