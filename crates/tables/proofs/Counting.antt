-- Counting the places that a queue holds. Assumes nothing.
use mathlib.Core.Path.{◌≡◌, refl, ap}
use mathlib.Core.Logic.{⊎_elim}
use mathlib.Core.List.{List}
use Prim.Native.Nat.{ℕ, zero, suc, ◌+◌, ◌≤◌, ◌<◌}
use native.Mathlib.Numerals.{add-one}
use native.Mathlib.Omega.{arith}
use lib.ListN.{get_or}
use Rattle.amounts.proofs.Tests.{same}
use Rattle.queue.specs.Queue.{total, is, times}
use Rattle.queue.proofs.Totals.{is_same, is_other, times_at}
use Rattle.tables.specs.Below.{sum_below}

-- a place that two entries hold is held twice
pub times_twice : (q : List ℕ) (i j n : ℕ) → i < j → j < n → get_or q i 0 ≡ get_or q j 0 → 2 ≤ times (get_or q j 0) q n
unfolding total
times_twice q i j zero h l e = absurd (omega arith)
times_twice q i j (suc n) h l e = ⊎_elim
    (λ s.
    let a : 1 ≤ times (get_or q j 0) q n = rw e at (times_at q i n (omega arith)) in
    omega (arith, is_same (get_or q j 0) (get_or q n 0) (ap (λ (k : ℕ). get_or q k 0) s)))
    (λ ne. omega (arith, times_twice q i j n h (omega arith) e))
    (same j n)

-- ---- sums over the numbers below n

pub sum_below_same : (f g : ℕ → ℕ) (n : ℕ) → ((p : ℕ) → p < n → f p ≡ g p) → sum_below f n ≡ sum_below g n
unfolding sum_below
sum_below_same f g zero h = refl
sum_below_same f g (suc n) h = omega (arith, sum_below_same f g n (λ p l. h p (omega arith)), h n (omega arith))

pub sum_below_both : (f g : ℕ → ℕ) (n : ℕ) → sum_below (λ p. f p + g p) n ≡ sum_below f n + sum_below g n
unfolding sum_below
sum_below_both f g zero = refl
sum_below_both f g (suc n) = omega (arith, sum_below_both f g n)

sum_below_none : (n : ℕ) → sum_below (λ p. 0) n ≡ 0
unfolding sum_below
sum_below_none zero = refl
sum_below_none (suc n) = omega (arith, sum_below_none n)

-- one number is itself once, below any that is larger
sum_below_past : (v n : ℕ) → n ≤ v → sum_below (λ p. is p v) n ≡ 0
unfolding sum_below
sum_below_past v zero h = refl
sum_below_past v (suc n) h = omega (arith, sum_below_past v n (omega arith), is_other n v (omega arith))

sum_below_one : (v n : ℕ) → v < n → sum_below (λ p. is p v) n ≡ 1
unfolding sum_below
sum_below_one v zero h = absurd (omega arith)
sum_below_one v (suc n) h = ⊎_elim
    (λ e. omega (arith, sum_below_past v n (omega arith), is_same n v e))
    (λ ne. omega (arith, sum_below_one v n (omega arith), is_other n v ne))
    (same n v)

-- where each of the first n entries is below m, the places below m are held n times together
pub held_together : (q : List ℕ) (n m : ℕ) → ((i : ℕ) → i < n → get_or q i 0 < m) → sum_below (λ p. times p q n) m ≡ n
unfolding total
held_together q zero m h = sum_below_none m
held_together q (suc n) m h =
    omega (arith, sum_below_both (λ p. times p q n) (λ p. is p (get_or q n 0)) m, held_together q n m (λ i l. h i (omega arith)), sum_below_one (get_or q n 0) m (h n (omega arith)))

-- one number more
pub sum_below_more : (f : ℕ → ℕ) (n : ℕ) → sum_below f (n + 1) ≡ sum_below f n + f n
unfolding sum_below
sum_below_more f n = rw add-one refl
