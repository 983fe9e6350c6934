-- Numbers in decimal, as ASCII bytes (document 01, "The sheet"). Assumes nothing.
use Rattle.std.specs.Prelude.{ℕ, zero, suc, ◌+◌, ◌/◌, ◌%◌, List, [], ◌∷◌, ◌++◌, ltb}
use Rattle.amounts.specs.Limits.{pick}

-- document 01, "The sheet": the digits of a number, at most k of them
abbrev pub digits : ℕ → ℕ → List ℕ
digits zero n = []
digits (suc k) n = pick (ltb n 10) ((48 + n) ∷ []) (digits k (n / 10) ++ ((48 + n % 10) ∷ []))

-- a 64-bit number has at most so many, and so the bound never counts (`decimal_more`)
abbrev pub digits_most : ℕ
digits_most = 20

-- document 01, "The sheet": a number in decimal, with no leading zeros
unfoldable pub decimal : ℕ → List ℕ
decimal n = digits digits_most n
