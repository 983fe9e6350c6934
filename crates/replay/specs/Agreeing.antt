-- When two runs carried on give the same (document 01, "How much each promise says"). Assumes nothing.
use Rattle.std.specs.Prelude.{◌≡◌, List, ℕ, Result, Ok, Err}
use Rattle.amounts.specs.declared.settings.Settings.{Settings}
use Rattle.card.specs.declared.Refusal.{Refusal}
use Rattle.tables.specs.Tables.{Tables, needed}
use Rattle.tables.specs.Renaming.{Renamed}
use Rattle.serving.specs.Serving.{beyond_of}
use Rattle.replay.specs.Carrying.{Carried}

-- the needed entries that two calls leave, with n files kept: equal where they are refused; where they are done, but for a renaming of places and the queue's order
abbrev pub Left : Settings → ℕ → Tables → Tables → Result ℕ Refusal → Type 0
Left s n u u' (Err x) = needed s.places.0 s.catalogue.0 u ≡ needed s.places.0 s.catalogue.0 u'
Left s n u u' (Ok k) = Renamed s n u u'

-- two calls give the same: the answer, the whole tally, every entry of the event list, and the needed entries of the tables
pub record Same (s : Settings) (r r' : Carried) (u u' : Tables) (told told' : List ℕ) : Type 0 where
  pub answer : r.answer ≡ r'.answer
  pub tally : r.tally ≡ r'.tally
  pub events : told ≡ told'
  pub needed : Left s r.tally.files_kept u u' r.answer

-- and what lies past the needed lengths: so on a refusal every lent entry is equal, and else nothing is free but which place a file takes, and the queue's order
pub record Alike (s : Settings) (r r' : Carried) (u u' : Tables) (told told' : List ℕ) : Type 0 where
  pub same : Same s r r' u u' told told'
  pub past : beyond_of s u ≡ beyond_of s u'
