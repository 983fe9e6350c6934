-- How a request is decided (document 01, "The run", "Tables and the tally" and "Event list"). Assumes nothing.
use Rattle.std.specs.Prelude.{◌≡◌, List, map, ℕ, ◌+◌, ◌≤◌, ◌<◌, length, get_or}
use Rattle.std.proofs.lemmas.List.Edits.{sets}
use Rattle.amounts.specs.Limits.{requests_most}
use Rattle.amounts.specs.Worth.{Valued}
use Rattle.amounts.specs.Requests.{Request}
use Rattle.method.specs.Shelf.{none}
use Rattle.method.specs.Method.{State, Served, meet}
use Rattle.method.specs.Events.{evict}
use Rattle.method.specs.Totals.{copies}
use Rattle.method.specs.declared.outcome.Outcome.{Outcome}
use Rattle.tables.specs.Tables.{Tables, shelf_of}
use Rattle.tables.specs.Tally.{store_of, policy_in, stamp_of}
use Rattle.tables.specs.declared.tally.Tally.{Tally}
use Rattle.shelving.specs.Live.{Live, Stack}
pub use Rattle.shelving.specs.Live.{Running, beyond_of}
use Rattle.counting.specs.Counting.{after}
use Rattle.admitting.specs.declared.untold.Untold.{Untold}

-- document 01, "The run": x is what the method gives; the outcome o, the tally b and what is left are the same, and the events es stand from `at` to `end`
pub record Gives (a : Tally) (t : Tables) (events : List ℕ) (at : ℕ) (x : Served State) (es : List ℕ) (o : Outcome) (b : Tally) (end : ℕ) (u : Tables) (entry' free' events' : List ℕ) : Type 0 where
  pub outcome : o ≡ x.reply.outcome
  pub tally : b ≡ after a x
  pub shelf : shelf_of a.settings.catalogue.0 u ≡ x.state.shelf
  -- no more files go than were kept
  pub few : copies x.reply.dropped + length x.reply.evicted ≤ a.files_kept
  pub written : events' ≡ sets events at es
  pub count : end ≡ at + length es
  -- the index and the stack are the call's own, of no caller's memory: this is all that is ever read of them, the index at the places that the queue holds and the stack
  -- up to its height; what their other entries hold is open, and like every lent list they stay as long as they were
  pub live : Live a.settings b.files_kept b.files_kept u entry'
  pub stack : Stack a.settings b.files_kept u free'
  pub past : beyond_of a.settings u ≡ beyond_of a.settings t

-- document 01, "Event list": of a request that is decided the evictions are told, and its own entry is due
abbrev pub Met : Tally → Tables → List ℕ → ℕ → Served State → Untold → Tables → List ℕ → List ℕ → List ℕ → Type 0
Met a t events at x r u entry' free' events' = Gives a t events at x (map evict x.reply.evicted) r.outcome r.tally r.due u entry' free' events'

-- what deciding a request asks, q with its cost in force
pub record Meetable (a : Tally) (q : Request) (t : Tables) (entry free events : List ℕ) (at : ℕ) : Type 0 where
  pub running : Running a t entry free
  pub few : a.requests < requests_most
  pub valued : Valued q.size q.cost
  pub known : q.file < a.settings.catalogue.0
  pub room : at + a.files_kept ≤ length events

-- document 01, "The run": a hit, a pass or an admission
abbrev pub meets : Tally → Request → Tables → Served State
meets a q t =
    let shelf = shelf_of a.settings.catalogue.0 t in
    meet (policy_in a.settings) (store_of a.settings) a.inflation.0 shelf (stamp_of a) q (get_or shelf q.file none)

-- the request as the method has it
abbrev pub asked : ℕ → ℕ → ℕ → Request
asked file size cost = record { file = file; size = size; cost = cost }
