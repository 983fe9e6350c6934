-- The totals of a tally: an amount, of bytes or of cost, by its tests. Assumes nothing.
use mathlib.Core.Path.{◌≡◌}
use mathlib.Core.Bool.{Bool, true}
use Prim.Native.Nat.{ℕ, ◌*◌, ◌≤◌}
use lib.Dec.{leb}
use borrow.Author.Tests.{leb-true, le-leb}
use Rattle.amounts.specs.Limits.{total_of}
use Rattle.method.specs.Totals.{Amount}
use Rattle.tables.specs.Exact.{Exact}
use Rattle.tables.proofs.Lengths.{and_left, and_right}
use Rattle.tables.proofs.Answers.{answer_call}

-- ---- a total that so many files can come to

total_parts : (m n t : ℕ) → total_of m n t ≡ true → (n ≤ t) × (t ≤ n * m)
unfolding total_of
total_parts m n t e = (leb-true n t (and_left (leb n t) (leb t (n * m)) e), leb-true t (n * m) (and_right (leb n t) (leb t (n * m)) e))

total : (m n t : ℕ) → n ≤ t → t ≤ n * m → total_of m n t ≡ true
unfolding total_of
total m n t a b = rw (le-leb n t a, le-leb t (n * m) b)

-- ---- an amount, of bytes or of cost, by the tests of what was hit, of the part and of what was asked

module _ {most hits requests part whole : ℕ} where
  pub amount_hit : Amount most hits requests part whole → total_of most hits part ≡ true
  amount_hit w = total most hits part w.hit_least w.hit_most

  pub amount_last : {r : Bool} → total_of most hits part ≡ true → part ≤ whole → r ≡ total_of most requests whole → Exact (Amount most hits requests part whole) r
  amount_last h w e =
      let hit = total_parts most hits part h in
      answer_call e
      (λ b. let asked = total_parts most requests whole b in record { hit_least = hit.0; hit_most = hit.1; hit_asked = w; asked_least = asked.0; asked_most = asked.1 })
      (λ x. total most requests whole x.asked_least x.asked_most)
