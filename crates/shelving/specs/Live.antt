-- What holds of tables and of the call's own lists between requests, and while one is served. Assumes nothing.
use Rattle.std.specs.Prelude.{◌≡◌, true, List, ℕ, ◌≤◌, length}
use Rattle.amounts.specs.Limits.{places_most, catalogue_most}
use Rattle.amounts.specs.Settings.{in_range}
use Rattle.amounts.specs.declared.settings.Settings.{Settings}
use Rattle.queue.specs.Queue.{Whole}
use Rattle.tables.specs.Tables.{Tables, Long, beyond}
use Rattle.tables.specs.Sound.{Linked, Queued, Sound, Spare, Desk}
use Rattle.tables.specs.declared.tally.Tally.{Tally}

-- document 01, "Tables and the tally": n files are kept, of which the first m stand in the queue and the others are set aside behind it
pub record Live (s : Settings) (n m : ℕ) (t : Tables) (entry : List ℕ) : Type 0 where
  pub places : s.places.0 ≤ places_most
  pub catalogue : s.catalogue.0 ≤ catalogue_most
  pub long : Long s.places.0 s.catalogue.0 t
  pub entry_long : s.places.0 ≤ length entry
  pub few : n ≤ s.places.0
  pub part : m ≤ n
  pub linked : Linked s t
  pub queued : Queued s n t
  pub whole : Whole t.queue entry t.key t.stamp m

-- document 01, "Tables and the tally": the stack of free places beside n files kept
pub record Stack (s : Settings) (n : ℕ) (t : Tables) (free : List ℕ) : Type 0 where
  pub long : s.places.0 ≤ length free
  pub spare : Spare s n t free

-- document 01, "Tables and the tally": sound tables, with the call's own lists in step
pub record Running (a : Tally) (t : Tables) (entry free : List ℕ) : Type 0 where
  pub ranged : in_range a.settings ≡ true
  pub long : Long a.settings.places.0 a.settings.catalogue.0 t
  pub sound : Sound a t
  pub desk : Desk a t entry free
  pub entry_long : a.settings.places.0 ≤ length entry
  pub free_long : a.settings.places.0 ≤ length free

-- document 01, "Needed lengths": what stands beyond the needed entries
abbrev pub beyond_of : Settings → Tables → Tables
beyond_of s t = beyond s.places.0 s.catalogue.0 t
