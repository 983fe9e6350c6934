-- A part judged before it is served: how many requests, or the refusal (document 01, "Numbers on the red card"). Assumes nothing.
use Rattle.std.specs.Prelude.{◌≡◌, Bool, true, ◌&&◌, List, ℕ, ◌+◌, ◌*◌, ◌≤◌, leb, eqb, length, Result, Ok, Err, ⊤}
use Rattle.amounts.specs.Limits.{pick, is_unit, requests_most, places_most}
use Rattle.amounts.specs.Settings.{in_range}
use Rattle.card.specs.declared.Refusal.{Refusal}
use Rattle.card.specs.declared.Refusal.TheVariants.{Setting, Short, TooMany, Room, OtherUnit}
use Rattle.amounts.specs.Requests.{Request}
use Rattle.trace.specs.Reading.{Read, good, stop, read_of, rows}
use Rattle.tables.specs.Tables.{Tables, Long}
use Rattle.tables.specs.declared.tally.Tally.{Tally}

-- document 01, "Trace bytes": the requests of a further part
abbrev pub requests_in : Tally → List ℕ → List Request
requests_in a part = rows (read_of (length part) a.settings.catalogue.0 part)

-- the counts of a sound tally
pub record Judgeable (a : Tally) : Type 0 where
  pub few : a.requests ≤ requests_most
  pub kept : a.files_kept ≤ places_most

-- document 01, "Order": 5, then 6, for so many requests
abbrev pub roomed : Tally → ℕ → ℕ → Result ℕ Refusal
roomed a count told =
    pick (leb (a.requests + count) requests_most) (pick (leb (2 * count + a.files_kept) told) (Ok count) (Err Room)) (Err TooMany)

-- document 01, "Order": 3 and 4 by place come before them
abbrev pub fitting_read : Tally → ℕ → Read → Result ℕ Refusal
fitting_read a told (stop x) = Err x
fitting_read a told (good qs) = roomed a (length qs) told

-- document 01, "Order": what a part is refused for, or how many requests it has
unfoldable pub fitting : Tally → List ℕ → ℕ → Result ℕ Refusal
fitting a part told = fitting_read a told (read_of (length part) a.settings.catalogue.0 part)

-- nothing stands against the call so far
abbrev pub fine : Result ⊤ Refusal
fine = Ok tt

-- document 01, "Order": 1, 2 or 8, where the tables are long enough or not
unfoldable pub settled : ℕ → Tally → Bool → Result ⊤ Refusal
settled unit a enough =
    pick (is_unit unit && in_range a.settings)
    (pick enough (pick (eqb unit a.settings.unit.0) fine (Err OtherUnit)) (Err Short))
    (Err Setting)

-- what is passed where 1 and 2 are not due
pub record Orderly (a : Tally) (t : Tables) : Type 0 where
  pub range : in_range a.settings ≡ true
  pub long : Long a.settings.places.0 a.settings.catalogue.0 t
