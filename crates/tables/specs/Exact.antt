-- A test that decides a condition. Assumes nothing.
use Rattle.std.specs.Prelude.{◌≡◌, Bool, true, false}

-- the answer is true exactly where P holds
pub record Exact (P : Type 0) (answer : Bool) : Type 0 where
  pub yes : answer ≡ true → P
  pub no : answer ≡ false → P → ⊥
