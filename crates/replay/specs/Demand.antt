-- Demands 2 and 3 over the calls: a fresh start, then runs carried on (document 01, "How much each promise says"). Assumes nothing.
use Rattle.std.specs.Prelude.{◌≡◌, true, List, [], ◌++◌, ℕ, ◌≤◌, length, take, Result, Ok}
use Rattle.amounts.specs.Limits.{requests_most}
use Rattle.amounts.specs.Settings.{in_range}
use Rattle.amounts.specs.Requests.{Request}
use Rattle.amounts.specs.declared.settings.Settings.{Settings}
use Rattle.method.specs.Method.{State, Run, run, step, fresh}
use Rattle.method.specs.Events.{events}
use Rattle.method.specs.Totals.{totals, zeros}
use Rattle.method.specs.Credit.{Ledger, step_c, fresh_c}
use Rattle.method.specs.Whole.{lifts_of}
use Rattle.method.specs.Promise.{Held}
use Rattle.card.specs.declared.Refusal.{Refusal}
use Rattle.trace.specs.Reading.{good, read_of}
use Rattle.tables.specs.Tables.{Tables}
use Rattle.tables.specs.Tally.{store_of, policy_in, whole_of, totals_of, fresh_tally}
use Rattle.tables.specs.Start.{long, Freshly}
use Rattle.tables.specs.declared.tally.Tally.{Tally}
use Rattle.serving.specs.Serving.{beyond_of}
use Rattle.parts.specs.Parts.{run_from, lifts_from, tally_of, events_of}
use Rattle.replay.specs.Carrying.{Carried, Carries}

-- from tally a and tables t, any number of calls that were done lead to another tally and other tables: bytes are their parts joined, es their events joined, n of each call's list
pub data Goes (a : Tally) (t : Tables) : Tally → Tables → List ℕ → List ℕ → Type 0 where
  here : Goes a t a t [] []
  on : (b : Tally) (u w : Tables) (bytes es told told' part : List ℕ) (r : Carried) (unit n : ℕ)
      → Goes a t b u bytes es → Carries b u told r w told' unit part → r.answer ≡ Ok n → Goes a t r.tally w (bytes ++ part) (es ++ take n told')

-- document 01, "Tables and the tally": in parts and at once: tally, whole state, events and what lies past the needed lengths are those of one run over the requests qs
pub record AtOnce (a : Tally) (t : Tables) (b : Tally) (u : Tables) (qs : List Request) (es : List ℕ) : Type 0 where
  pub tally : b ≡ tally_of a (lifts_from a t qs) (run_from a t qs)
  pub state : whole_of b u ≡ (run_from a t qs).state
  pub events : es ≡ events_of qs (run_from a t qs)
  pub past : beyond_of a.settings u ≡ beyond_of a.settings t

-- a fresh start under s, over anybody's old tables, and calls that were done
pub record Reached (s : Settings) (a : Tally) (t : Tables) (bytes es : List ℕ) : Type 0 where
  pub old : Tables
  pub new : Tables
  pub answer : Result Tally Refusal
  pub range : in_range s ≡ true
  pub enough : long s old ≡ true
  pub starts : Freshly s old answer new
  pub goes : Goes (fresh_tally s) new a t bytes es

-- demand 2's run over the requests qs from a fresh start, and the plain method's
abbrev pub so_far : Settings → List Request → Run State
so_far s qs = run (step (policy_in s) (store_of s)) (fresh (store_of s)) qs

abbrev pub plain_so_far : Settings → List Request → Run Ledger
plain_so_far s qs = run (step_c (policy_in s) (store_of s)) (fresh_c (store_of s)) qs

-- tally, tables and events stand for demand 2's run, so tables that kept nothing don't; and `method`'s demand 3 holds after every request of it
pub record Holds (s : Settings) (a : Tally) (t : Tables) (bytes es : List ℕ) : Type 0 where
  pub qs : List Request
  pub reads : read_of (length bytes) s.catalogue.0 bytes ≡ good qs
  pub settings : a.settings ≡ s
  -- document 02, ticket 5: whole inflation and whole keys, and as many lifts as the run has
  pub state : whole_of a t ≡ (so_far s qs).state
  pub lifts : a.lifts ≡ lifts_of (step (policy_in s) (store_of s)) 0 (fresh (store_of s)) qs
  pub counts : totals_of a ≡ totals zeros (so_far s qs).replies
  pub events : es ≡ events qs (so_far s qs).replies
  pub few : length qs ≤ requests_most
  pub every : (ps rs : List Request) → qs ≡ ps ++ rs → Held (policy_in s) (store_of s) ps (so_far s ps) (plain_so_far s ps)

-- demands 2 and 3, for every run of the bench
abbrev pub Demands : Type 0
Demands = (s : Settings) (a : Tally) (t : Tables) (bytes es : List ℕ) → Reached s a t bytes es → Holds s a t bytes es
