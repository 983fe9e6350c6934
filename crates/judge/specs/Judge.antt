-- What the judge of soundness asks: nothing of the words in the tables and in the tally (document 01, "Tables and the tally"). Assumes nothing.
use Rattle.std.specs.Prelude.{ℕ, ◌≤◌, ◌≡◌, true, List, length}
use Rattle.amounts.specs.Settings.{in_range}
use Rattle.tables.specs.Tables.{Tables, Long}
use Rattle.tables.specs.declared.tally.Tally.{Tally}

-- settings in range and tables long enough; the call's own lists have an entry for each place
pub record Lent (a : Tally) (t : Tables) (entry free : List ℕ) : Type 0 where
  pub range : in_range a.settings ≡ true
  pub long : Long a.settings.places.0 a.settings.catalogue.0 t
  pub entry_long : a.settings.places.0 ≤ length entry
  pub free_long : a.settings.places.0 ≤ length free
