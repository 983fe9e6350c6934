-- A part of a trace, served request by request (document 01, "Tables and the tally"). Assumes nothing.
use Rattle.std.specs.Prelude.{◌≡◌, List, ℕ, ◌+◌, ◌*◌, ◌≤◌, length}
use Rattle.std.proofs.lemmas.List.Edits.{sets}
use Rattle.amounts.specs.Limits.{requests_most}
use Rattle.amounts.specs.Requests.{Request}
use Rattle.method.specs.Method.{State, Run, run, step}
use Rattle.method.specs.Events.{events}
use Rattle.method.specs.Totals.{totals}
use Rattle.method.specs.Whole.{lifts_of}
use Rattle.trace.specs.Reading.{good, read_of}
use Rattle.tables.specs.Tables.{Tables}
use Rattle.tables.specs.Tally.{store_of, policy_in, whole_of, totals_of}
use Rattle.tables.specs.declared.tally.Tally.{Tally}
use Rattle.counting.specs.Counting.{whole_tally}
use Rattle.serving.specs.Serving.{Running, beyond_of}
use Rattle.refusing.specs.Judging.{requests_in}
use Rattle.parts.specs.declared.Ended.{Ended}

-- document 01, "The run": the method's run over the requests qs, from the whole state that tally and tables stand for (document 02, ticket 5)
abbrev pub run_from : Tally → Tables → List Request → Run State
run_from a t qs = run (step (policy_in a.settings) (store_of a.settings)) (whole_of a t) qs

-- document 02, ticket 5: how many lifts there are after it
abbrev pub lifts_from : Tally → Tables → List Request → ℕ
lifts_from a t qs = lifts_of (step (policy_in a.settings) (store_of a.settings)) a.lifts (whole_of a t) qs

-- document 01, "Tables and the tally": the tally after a run with so many lifts
abbrev pub tally_of : Tally → ℕ → Run State → Tally
tally_of a lifts x = whole_tally a lifts x.state (totals (totals_of a) x.replies)

-- document 01, "Event list": its events
abbrev pub events_of : List Request → Run State → List ℕ
events_of qs x = events qs x.replies

-- what serving a part asks: it is good, and there is room for its requests in the run and in the event list
pub record Ready (a : Tally) (part : List ℕ) (count : ℕ) (t : Tables) (entry free told : List ℕ) : Type 0 where
  pub running : Running a t entry free
  pub reads : read_of (length part) a.settings.catalogue.0 part ≡ good (requests_in a part)
  pub counts : length (requests_in a part) ≡ count
  pub few : a.requests + count ≤ requests_most
  pub room : 2 * count + a.files_kept ≤ length told

-- what it promises: tally, whole state and events of the run over the requests qs, and sound tables again
pub record PartServed (qs : List Request) (a : Tally) (t : Tables) (told : List ℕ) (r : Ended) (u : Tables) (entry' free' told' : List ℕ) : Type 0 where
  pub tally : r.tally ≡ tally_of a (lifts_from a t qs) (run_from a t qs)
  pub state : whole_of r.tally u ≡ (run_from a t qs).state
  pub written : told' ≡ sets told 0 (events_of qs (run_from a t qs))
  pub count : r.events ≡ length (events_of qs (run_from a t qs))
  pub running : Running r.tally u entry' free'
  pub past : beyond_of a.settings u ≡ beyond_of a.settings t
