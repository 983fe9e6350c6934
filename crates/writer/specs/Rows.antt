-- The three lent lists as one value. Assumes nothing.
use Rattle.std.specs.Prelude.{ℕ, ◌≡◌, ◌<◌, List, min, length, Result, MatchResult}
use Rattle.amounts.specs.Requests.{Request}
use Rattle.card.specs.declared.Refusal.{Refusal}
use Rattle.card.specs.declared.Refusal.TheVariants.{Short}
use Rattle.trace.specs.Writing.{requests_in}
use Rattle.writer.specs.declared.rows.Rows.{Rows}

-- document 01, "Trace bytes": the requests of the three lists
abbrev pub requests_of : Rows → List Request
requests_of r = requests_in r.files.now r.sizes.now r.costs.now

-- the value holds these lists
pub record Held (f s d : List ℕ) (r : Rows) : Type 0 where
  pub files : r.files.now ≡ f
  pub sizes : r.sizes.now ≡ s
  pub costs : r.costs.now ≡ d

-- document 01, "Numbers on the red card", 2: the writer's sizes or costs fewer than its files
abbrev pub Joined : List ℕ → List ℕ → List ℕ → Result Rows Refusal → Type 0
Joined f s d r = MatchResult r (Held f s d) (λ e. (e ≡ Short) × (min (length s) (length d) < length f))
