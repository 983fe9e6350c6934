-- What is promised of a request for a file that is kept, by its size (document 02, ticket 2). Assumes nothing.
use Rattle.std.specs.Prelude.{◌≡◌, [], get_or}
use Rattle.amounts.specs.Requests.{Request}
use Rattle.method.specs.Shelf.{Kept, none, kept}
use Rattle.method.specs.Method.{Policy, Settings, Served, State, hit, step}
use Rattle.method.specs.declared.outcome.Pass.{Pass}
use Rattle.method.specs.declared.outcome.Outcome.TheVariants.{Hit, Passed}

-- document 02, ticket 2: x is what the request q gives from the state st, where r, of another size, is kept of its file
pub record Recut (st : State) (q : Request) (r : Kept) (x : Served State) : Type 0 where
  -- the old copy is dropped
  pub dropped : x.reply.dropped ≡ kept r
  -- the request goes on as a miss
  pub missed : x.reply.outcome ≡ Hit → ⊥
  -- with frequency 1, in the size that was asked for
  pub anew : (k : Kept) → get_or x.state.shelf q.file none ≡ kept k → (k.freq ≡ 1) × (k.size ≡ q.size)
  -- a `big` or `low` outcome doesn't bring the old copy back
  pub gone : (w : Pass) → x.reply.outcome ≡ Passed w → get_or x.state.shelf q.file none ≡ none
  -- L stays where nothing is evicted
  pub still : x.reply.evicted ≡ [] → x.state.inflation ≡ st.inflation

-- for every policy, settings and state
abbrev pub Recuts : Type 0
Recuts =
    (p : Policy) (c : Settings) (st : State) (q : Request) (r : Kept) → get_or st.shelf q.file none ≡ kept r → (r.size ≡ q.size → ⊥)
    → Recut st q r (step p c st q)

-- document 02, ticket 2: a request for the kept size is a hit, which uses the kept cost
abbrev pub Repeats : Type 0
Repeats =
    (p : Policy) (c : Settings) (st : State) (q : Request) (r : Kept) → get_or st.shelf q.file none ≡ kept r → r.size ≡ q.size
    → step p c st q ≡ hit p st.inflation st.shelf st.stamp q.file r
