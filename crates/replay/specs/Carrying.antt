-- A run carried on (document 01, "Tables and the tally" and "Numbers on the red card"). Assumes nothing.
use Rattle.std.specs.Prelude.{◌≡◌, List, [], ◌∷◌, ℕ, length, Result, Ok, Err, ⊤}
use Rattle.std.proofs.lemmas.List.Edits.{sets}
use Rattle.amounts.specs.Requests.{Request}
use Rattle.card.specs.Card.{Card, done, card_of}
use Rattle.card.specs.declared.Refusal.{Refusal}
use Rattle.card.specs.declared.Refusal.TheVariants.{Unsound}
use Rattle.trace.specs.Cards.{answer_card}
use Rattle.tables.specs.Tables.{Tables, Long}
use Rattle.tables.specs.Tally.{whole_of}
use Rattle.tables.specs.Start.{long}
use Rattle.tables.specs.Sound.{Sound}
use Rattle.tables.specs.declared.tally.Tally.{Tally}
use Rattle.serving.specs.Serving.{beyond_of}
use Rattle.refusing.specs.Judging.{requests_in, fitting, settled}
use Rattle.parts.specs.declared.Ended.{Ended}
use Rattle.parts.specs.Parts.{run_from, lifts_from, tally_of, events_of}

-- what a call gives: the answer, and the tally after it
pub record Carried : Type 0 where
  pub answer : Result ℕ Refusal
  pub tally : Tally

-- a refusal leaves the tally that the call was given
abbrev pub carried : Tally → Result Ended Refusal → Carried
carried a (Ok e) = record { answer = Ok e.events; tally = e.tally }
carried a (Err x) = record { answer = Err x; tally = a }

-- document 01, "Order": a refusal is decided before anything is written
pub record Refuses (card : Card) (a : Tally) (t : Tables) (told : List ℕ) (r : Carried) (u : Tables) (told' : List ℕ) : Type 0 where
  pub answer : answer_card r.answer ≡ card
  pub tally : r.tally ≡ a
  pub lent : u ≡ t
  pub untold : told' ≡ told

-- document 01, "Tables and the tally": outcomes, evictions in order, events, tally and whole state are those of the method's run over the requests qs; the tables are left sound
-- document 02, ticket 5: its lifts too
pub record Runs (qs : List Request) (a : Tally) (t : Tables) (told : List ℕ) (r : Carried) (u : Tables) (told' : List ℕ) : Type 0 where
  pub answer : answer_card r.answer ≡ done (length (events_of qs (run_from a t qs)) ∷ [])
  pub tally : r.tally ≡ tally_of a (lifts_from a t qs) (run_from a t qs)
  pub state : whole_of r.tally u ≡ (run_from a t qs).state
  pub sound : Sound r.tally u
  pub written : told' ≡ sets told 0 (events_of qs (run_from a t qs))
  pub long : Long a.settings.places.0 a.settings.catalogue.0 u
  pub past : beyond_of a.settings u ≡ beyond_of a.settings t

module _ (a : Tally) (t : Tables) (told : List ℕ) (r : Carried) (u : Tables) (told' : List ℕ) where
  -- the refusal that is due, or the run over the requests of the part
  abbrev pub Answers : List ℕ → Result ℕ Refusal → Type 0
  Answers part (Err x) = Refuses (card_of x) a t told r u told'
  Answers part (Ok n) = Runs (requests_in a part) a t told r u told'

  -- document 01, "Order": 7 exactly where the tables are not sound; then 3 and 4 by place, 5, 6
  pub record Judges (part : List ℕ) : Type 0 where
    pub unsound : (Sound a t → ⊥) → Answers part (Err Unsound)
    pub sound : Sound a t → Answers part (fitting a part (length told))

  -- document 01, "Order": 1, 2 and 8 come first
  abbrev pub Settles : List ℕ → Result ⊤ Refusal → Type 0
  Settles part (Err x) = Answers part (Err x)
  Settles part (Ok tt) = Judges part

  -- what `carry_on` promises
  abbrev pub Carries : ℕ → List ℕ → Type 0
  Carries unit part = Settles part (settled unit a (long a.settings t))
