-- A fresh start: the answer in the paper's numbers, and every lent entry afterwards (document 01, "Tables and the tally"). Assumes nothing.
use Rattle.std.specs.Prelude.{◌≡◌, Bool, List, [], ◌∷◌, ℕ, Result, Ok, Err}
use Rattle.amounts.specs.Limits.{pick}
use Rattle.amounts.specs.Settings.{in_range}
use Rattle.amounts.specs.declared.settings.Settings.{Settings}
use Rattle.card.specs.Card.{Card, done, refused, card_of}
use Rattle.card.specs.declared.Refusal.{Refusal}
use Rattle.tables.specs.Tables.{Tables, is_long, cleared}
use Rattle.tables.specs.Tally.{fresh_tally}
use Rattle.tables.specs.declared.tally.Tally.{Tally}

-- the tally in document 01's order, then what the tickets of document 02 add
abbrev pub words : Tally → List ℕ
words a =
    a.settings.unit.0 ∷ a.settings.policy.0 ∷ a.settings.capacity.0 ∷ a.settings.places.0 ∷ a.settings.catalogue.0
    ∷ a.inflation.0 ∷ a.bytes_kept.0 ∷ a.files_kept ∷ a.requests ∷ a.hits ∷ a.admitted ∷ a.passed ∷ a.evicted
    ∷ a.bytes_asked.0 ∷ a.hit_bytes.0 ∷ a.cost_asked.0 ∷ a.hit_cost.0 ∷ a.dropped ∷ a.lifts ∷ []

-- document 01, "Numbers on the red card": the number and the values of each answer
abbrev pub start_card : Result Tally Refusal → Card
start_card (Ok a) = done (words a)
start_card (Err r) = card_of r

-- document 01, "Tables and the tally": needed lengths
abbrev pub long : Settings → Tables → Bool
long s t = is_long s.places.0 s.catalogue.0 t

-- 1 where a setting is out of range, else 2 where a table is too short, else the new tally
unfoldable pub start_answer : Settings → Tables → Card
start_answer s t = pick (in_range s) (pick (long s t) (done (words (fresh_tally s))) (refused 2 [])) (refused 1 [])

-- a refusal leaves every entry; else every needed entry is set
unfoldable pub start_tables : Settings → Tables → Tables
start_tables s t = pick (in_range s) (pick (long s t) (cleared s.places.0 s.catalogue.0 t) t) t

-- what `fresh` promises: t are the tables at entry, u at exit
pub record Freshly (s : Settings) (t : Tables) (r : Result Tally Refusal) (u : Tables) : Type 0 where
  pub answer : start_card r ≡ start_answer s t
  pub lent : u ≡ start_tables s t
