-- What the functions below the entry point ask and promise. Assumes nothing.
use Rattle.std.specs.Prelude.{ℕ, ◌≤◌, ◌≡◌, true, List, length, Ok, Err}
use Rattle.std.proofs.lemmas.List.Edits.{sets}
use Rattle.amounts.specs.Settings.{in_range}
use Rattle.amounts.specs.declared.settings.Settings.{Settings}
use Rattle.trace.specs.Reading.{Read, good, stop, read_of}
use Rattle.layout.specs.Sheet.{input_most, own_places, own_catalogue, own_events, sheet_most, ran_tally, ran_events}
use Rattle.replay.specs.Carrying.{Carried}

-- settings and requests of a trace that the program takes
pub record Given (s : Settings) (part : List ℕ) : Type 0 where
  pub ranged : in_range s ≡ true
  pub short : length part ≤ input_most

-- and that its own tables hold
pub record OwnSized (s : Settings) (part told : List ℕ) : Type 0 where
  pub given : Given s part
  pub places : s.places.0 ≤ own_places
  pub catalogue : s.catalogue.0 ≤ own_catalogue
  pub events : length told ≡ own_events

-- r and told' are the run over the requests that were read, or the refusal
abbrev pub RanOn : Settings → List ℕ → Carried → List ℕ → Read → Type 0
RanOn s told r told' (stop x) = r.answer ≡ Err x
RanOn s told r told' (good qs) =
    (r.answer ≡ Ok (length (ran_events s qs))) × (r.tally ≡ ran_tally s qs) × (told' ≡ sets told 0 (ran_events s qs))

pub record Ran (s : Settings) (part told : List ℕ) (r : Carried) (told' : List ℕ) : Type 0 where
  pub ran : RanOn s told r told' (read_of (length part) s.catalogue.0 part)

-- a text has room for any sheet
pub record Ample (text : List ℕ) : Type 0 where
  pub room : sheet_most ≤ length text
