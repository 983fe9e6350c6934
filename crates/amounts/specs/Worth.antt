-- Worth, the product and the cost in force (document 01, "Numbers"; document 02, ticket 6). Assumes nothing.
use Rattle.std.specs.Prelude.{ℕ, ◌+◌, ◌*◌, ◌/◌, ◌≤◌, eqb}
use Rattle.amounts.specs.Limits.{pick, size_most, cost_most}

-- document 01, "Worth": cost × 16,777,216 / size, rounded down
abbrev pub scale : ℕ
scale = 16777216

unfoldable pub worth_of : ℕ → ℕ → ℕ
worth_of size cost = cost * scale / size

-- document 01, "Worth": the largest
abbrev pub worth_most : ℕ
worth_most = 1099494850560

-- document 02, ticket 6: frequency × cost × 16,777,216 / size, rounded down once; what a key is set above the clock by (document 001, section 5, (1))
unfoldable pub product_of : ℕ → ℕ → ℕ → ℕ
product_of frequency size cost = frequency * (cost * scale) / size

-- document 000, section 5.2: the packet estimate, with the quotient rounded down
unfoldable pub packets : ℕ → ℕ
packets size = 2 + size / 536

-- document 01, "Numbers": cost 0 in a request stands for the packet estimate
unfoldable pub in_force : ℕ → ℕ → ℕ
in_force size cost = pick (eqb cost 0) (packets size) cost

-- a size and a cost in force, in range
pub record Valued (size cost : ℕ) : Type 0 where
  pub size_least : 1 ≤ size
  pub size_at_most : size ≤ size_most
  pub cost_least : 1 ≤ cost
  pub cost_at_most : cost ≤ cost_most
