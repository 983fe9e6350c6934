-- A kept file dropped, apart from any eviction (document 02, ticket 2; document 01, "Tables and the tally"). Assumes nothing.
use Rattle.std.specs.Prelude.{◌≡◌, List, ℕ, ◌+◌, ◌-◌, ◌≤◌, ◌<◌, get_or, set}
use Rattle.amounts.specs.Limits.{requests_most}
use Rattle.method.specs.Shelf.{none}
use Rattle.method.specs.Totals.{Totals}
use Rattle.tables.specs.Tables.{Tables, shelf_of}
use Rattle.tables.specs.Tally.{totals_of}
use Rattle.tables.specs.Sound.{Occupied}
use Rattle.tables.specs.declared.tally.Tally.{Tally}
use Rattle.counting.specs.Counting.{tallied}
use Rattle.shelving.specs.Live.{Running, beyond_of}

-- document 02, ticket 2: one more is dropped; it isn't an eviction, and no request is counted
abbrev pub dropped_totals : Totals → Totals
dropped_totals y =
    record {
      requests = y.requests;
      hits = y.hits;
      admitted = y.admitted;
      passed = y.passed;
      evicted = y.evicted;
      dropped = y.dropped + 1;
      bytes = y.bytes;
      hit_bytes = y.hit_bytes;
      cost = y.cost;
      hit_cost = y.hit_cost;
    }

-- document 02, ticket 2: the tally without a copy of that size; L stays
abbrev pub dropped_tally : Tally → ℕ → Tally
dropped_tally a size = tallied a a.inflation.0 (a.bytes_kept.0 - size) (a.files_kept - 1) (dropped_totals (totals_of a))

-- document 01, "Tables and the tally": a copy of that size is among what the tally counts as kept, so what went is less than what was admitted
pub record Among (a : Tally) (size : ℕ) : Type 0 where
  pub some : 1 ≤ a.files_kept
  pub part : size ≤ a.bytes_kept.0
  pub gone : a.evicted + a.dropped < requests_most

-- document 01, "Tables and the tally": between requests a file stands at place p
pub record Standing (a : Tally) (p : ℕ) (t : Tables) (entry free : List ℕ) : Type 0 where
  pub running : Running a t entry free
  pub occupied : Occupied a.settings t p

-- document 02, ticket 2: that file is dropped and nothing else changes; its record is 0, its place is free and the queue holds it no longer, since the tables are sound again
pub record CopyGone (a : Tally) (p : ℕ) (t : Tables) (r : Tally) (u : Tables) (entry' free' : List ℕ) : Type 0 where
  pub tally : r ≡ dropped_tally a (get_or t.size p 0)
  pub shelf : shelf_of a.settings.catalogue.0 u ≡ set (shelf_of a.settings.catalogue.0 t) (get_or t.file p 0) none
  pub running : Running r u entry' free'
  pub past : beyond_of a.settings u ≡ beyond_of a.settings t
