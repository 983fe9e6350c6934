-- The quotient of two counts as a double, in the language's account of IEEE 754 (document 02, ticket 3). Assumes nothing.
use Rattle.std.specs.Prelude.{◌≡◌, false, ℕ, ◌≤◌, pos, Float}
use Rattle.std.specs.Float.{binary64}
use Rattle.std.specs.Float.Ieee.{round, div, of_int}
use Rattle.std.specs.Float.Ieee.Exact.{HasValue}

-- document 02, ticket 5: 2 to the 53rd, up to which a double has every count exactly
abbrev pub exact_most : ℕ
exact_most = 9007199254740992

-- document 01, "The forms we use": a count converted
abbrev pub double : ℕ → Float
double n = of_int binary64 (pos n)

-- document 02, ticket 3: part by whole, the exact fraction rounded once, to the nearest double and at a tie to the even one
abbrev pub quotient : ℕ → ℕ → Float
quotient part whole = round binary64 false part whole

-- document 01, "The forms we use": a part of a whole that is not 0, each a count that a double has exactly
pub record Part (part whole : ℕ) : Type 0 where
  pub within : part ≤ whole
  pub some : 1 ≤ whole
  pub exact : whole ≤ exact_most

-- document 01, "The forms we use": r is one division of exactly converted counts
pub record Divided (part whole : ℕ) (r : Float) : Type 0 where
  -- each double is the count itself, over 1
  pub part_exact : HasValue (double part) false part 1
  pub whole_exact : HasValue (double whole) false whole 1
  pub divided : r ≡ div binary64 (double part) (double whole)
  -- so nothing was rounded before
  pub rounded : r ≡ quotient part whole
