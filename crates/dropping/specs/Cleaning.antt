-- The old copy that a request drops first (document 02, ticket 2). Assumes nothing.
use Rattle.std.specs.Prelude.{◌≡◌, List, ℕ, ◌+◌, ◌≤◌, ◌<◌, length, get_or}
use Rattle.std.proofs.lemmas.List.Edits.{sets}
use Rattle.method.specs.Shelf.{Slot, none, kept}
use Rattle.method.specs.Method.{old_copy, drop_old}
use Rattle.method.specs.Events.{stale}
use Rattle.method.specs.Totals.{copies}
use Rattle.tables.specs.Tables.{Tables, shelf_of}
use Rattle.tables.specs.declared.tally.Tally.{Tally}
use Rattle.shelving.specs.Live.{Running, beyond_of}
use Rattle.dropping.specs.Dropping.{dropped_tally}
use Rattle.dropping.specs.declared.stale.Cleaned.{Cleaned}

-- document 02, ticket 2: the copy of the file whose size differs from the one asked for
abbrev pub old_in : Tally → ℕ → ℕ → Tables → Slot
old_in a file size t = old_copy size (get_or (shelf_of a.settings.catalogue.0 t) file none)

-- document 02, ticket 2: the tally without it
abbrev pub clean_tally : Tally → Slot → Tally
clean_tally a none = a
clean_tally a (kept r) = dropped_tally a r.size

-- what it asks: between requests, for a file of the catalogue, with room for an event
pub record Cleanable (a : Tally) (file : ℕ) (t : Tables) (entry free events : List ℕ) (at : ℕ) : Type 0 where
  pub running : Running a t entry free
  pub known : file < a.settings.catalogue.0
  pub room : at + a.files_kept ≤ length events

-- document 02, ticket 2: the old copy x of the file, if there is one, is dropped and told as `stale`, and the run can go on
pub record Cleans (a : Tally) (file : ℕ) (x : Slot) (t : Tables) (events : List ℕ) (at : ℕ) (r : Cleaned) (u : Tables) (entry' free' events' : List ℕ) : Type 0 where
  pub tally : r.tally ≡ clean_tally a x
  pub shelf : shelf_of a.settings.catalogue.0 u ≡ drop_old file x (shelf_of a.settings.catalogue.0 t)
  pub written : events' ≡ sets events at (stale file x)
  pub due : r.due ≡ at + copies x
  pub running : Running r.tally u entry' free'
  pub past : beyond_of a.settings u ≡ beyond_of a.settings t
