-- Which of two files is lower (document 01, "The run"). Assumes nothing.
use Rattle.std.specs.Prelude.{ℕ, Bool, ◌&&◌, ◌||◌, ltb, eqb}

-- document 01, "Lowest": the smaller key; among equal keys, the smaller stamp
unfoldable pub lower_of : ℕ → ℕ → ℕ → ℕ → Bool
lower_of key stamp key' stamp' = ltb key key' || (eqb key key' && ltb stamp stamp')
