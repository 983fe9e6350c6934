-- A request of a trace (document 01, "Trace bytes") and its range (document 01, "Numbers"). Assumes nothing.
use Rattle.std.specs.Prelude.{ℕ, ◌<◌, ◌≡◌, true, List, [], ◌∷◌}
use Rattle.amounts.specs.Limits.{is_size, is_cost}
use Rattle.amounts.specs.Worth.{in_force}

-- document 01, "Trace bytes": file, size, cost
pub record Request : Type 0 where
  pub file : ℕ
  pub size : ℕ
  pub cost : ℕ

-- document 01, "Numbers": a run resolves cost 0 before anything else
abbrev pub resolved : Request → Request
resolved q = record { file = q.file; size = q.size; cost = in_force q.size q.cost }

-- document 01, "Numbers": file, size and cost in range
pub record Ranged (catalogue : ℕ) (q : Request) : Type 0 where
  pub file : q.file < catalogue
  pub size : is_size q.size ≡ true
  pub cost : is_cost q.cost ≡ true

-- each request of a list is in range
abbrev pub AllRanged : ℕ → List Request → Type 0
AllRanged catalogue [] = Unit {0}
AllRanged catalogue (q ∷ qs) = Ranged catalogue q × AllRanged catalogue qs
