-- What one request gives (document 01, "The run", "Tables and the tally" and "Event list"; document 02, ticket 5). Assumes nothing.
use Rattle.std.specs.Prelude.{◌≡◌, List, ℕ, ◌+◌, ◌≤◌, ◌<◌, length}
use Rattle.std.proofs.lemmas.List.Edits.{sets}
use Rattle.amounts.specs.Limits.{requests_most}
use Rattle.amounts.specs.Requests.{Request, Ranged}
use Rattle.method.specs.Method.{State, Served, step}
use Rattle.method.specs.Events.{entries}
use Rattle.method.specs.Totals.{counted}
use Rattle.method.specs.Whole.{lifted}
use Rattle.tables.specs.Tables.{Tables}
use Rattle.tables.specs.Tally.{store_of, policy_in, whole_of, totals_of}
use Rattle.tables.specs.declared.tally.Tally.{Tally}
use Rattle.counting.specs.Counting.{whole_tally}
pub use Rattle.admitting.specs.Deciding.{Running, beyond_of, asked}
use Rattle.serving.specs.declared.step.Step.{Step}

-- document 02, ticket 5: what the method gives for the request from the whole state that tally and tables stand for
abbrev pub whole_step : Tally → Tables → Request → Served State
whole_step a t q = step (policy_in a.settings) (store_of a.settings) (whole_of a t) q

-- one request served: r, and what is left, is what the method gives, with the lift that may be due before it; and sound tables again
pub record Stepped (a : Tally) (q : Request) (t : Tables) (events : List ℕ) (at : ℕ) (r : Step) (u : Tables) (entry' free' events' : List ℕ) : Type 0 where
  pub outcome : r.outcome ≡ (whole_step a t q).reply.outcome
  pub tally : r.tally ≡ whole_tally a (lifted a.lifts (whole_of a t).inflation) (whole_step a t q).state (counted (totals_of a) (whole_step a t q).reply)
  pub state : whole_of r.tally u ≡ (whole_step a t q).state
  pub written : events' ≡ sets events at (entries q (whole_step a t q).reply)
  pub count : r.events ≡ at + length (entries q (whole_step a t q).reply)
  pub running : Running r.tally u entry' free'
  pub past : beyond_of a.settings u ≡ beyond_of a.settings t

-- what serving a request asks: there is room for its events, and for it in the run
pub record Servable (a : Tally) (q : Request) (t : Tables) (entry free events : List ℕ) (at : ℕ) : Type 0 where
  pub running : Running a t entry free
  pub few : a.requests < requests_most
  pub ranged : Ranged a.settings.catalogue.0 q
  pub room : at + a.files_kept + 1 ≤ length events
