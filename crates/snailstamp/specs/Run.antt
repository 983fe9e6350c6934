-- What a fresh start and a run carried on promise in words (docs/BOUNDARY.md). Assumes nothing.
use Rattle.std.specs.Prelude.{◌≡◌, Bool, List, [], ℕ, ◌%◌, leb, length, Result, Ok, Err, ⊤}
use Rattle.amounts.specs.Limits.{pick, is_unit}
use Rattle.amounts.specs.Settings.{in_range}
use Rattle.amounts.specs.declared.settings.Settings.{Settings}
use Rattle.card.specs.Card.{Card, done, refused, card_of}
use Rattle.card.specs.declared.Refusal.{Refusal}
use Rattle.card.specs.declared.Refusal.TheVariants.{Setting, Short}
use Rattle.trace.specs.Cards.{answer_card}
use Rattle.trace.specs.Promise.{over}
use Rattle.tables.specs.Tables.{Tables}
use Rattle.tables.specs.Tally.{fresh_tally}
use Rattle.tables.specs.Start.{words, long, start_tables}
use Rattle.tables.specs.Renaming.{Renamed}
use Rattle.tables.specs.declared.tally.Tally.{Tally}
use Rattle.refusing.specs.Judging.{fine}
use Rattle.replay.specs.Carrying.{Carried, Carries}
use Rattle.serving.specs.Serving.{beyond_of}
use Rattle.words.specs.Words.{answer_word, tally_words, tally_in}

-- docs/BOUNDARY.md: a tally of fewer words is too short
abbrev pub enough : List ℕ → Bool
enough w = leb tally_words (length w)

-- docs/BOUNDARY.md: 1 where a setting is out of range, else 2 where the tally or a table is too short, else done
unfoldable pub fresh_card : Settings → List ℕ → Tables → Card
fresh_card s w t = pick (in_range s) (pick (enough w) (pick (long s t) (done []) (refused 2 [])) (refused 2 [])) (refused 1 [])

-- docs/BOUNDARY.md: the words of the new tally stand over the front; words past these are never written, and none on a refusal
unfoldable pub fresh_words : Settings → List ℕ → Tables → List ℕ
fresh_words s w t = pick (in_range s) (pick (enough w) (pick (long s t) (over (words (fresh_tally s)) w) w) w) w

-- docs/BOUNDARY.md: the tables of a fresh start, as they were where the tally is too short
unfoldable pub fresh_tables : Settings → List ℕ → Tables → Tables
fresh_tables s w t = pick (enough w) (start_tables s t) t

-- docs/BOUNDARY.md, what `snailstamp_fresh` promises: w are the words and t the tables at entry, w' and u at exit
pub record FreshWords (s : Settings) (w : List ℕ) (t : Tables) (r : ℕ) (w' : List ℕ) (u : Tables) : Type 0 where
  pub answer : r ≡ answer_word (fresh_card s w t)
  pub tally : w' ≡ fresh_words s w t
  pub lent : u ≡ fresh_tables s w t

-- docs/BOUNDARY.md: a refusal that leaves every lent entry as it was
pub record Untouched (card : Card) (w : List ℕ) (t : Tables) (told : List ℕ) (r : ℕ) (w' : List ℕ) (u : Tables) (told' : List ℕ) : Type 0 where
  pub answer : r ≡ answer_word card
  pub tally : w' ≡ w
  pub lent : u ≡ t
  pub untold : told' ≡ told

-- docs/BOUNDARY.md: the tally of a call that is done over the front of the words; none on a refusal
abbrev pub carried_words : Result ℕ Refusal → Tally → List ℕ → List ℕ
carried_words (Ok n) a w = over (words a) w
carried_words (Err x) a w = w

-- docs/BOUNDARY.md: what `carry_on` promises of the tally that the words stand for
pub record CarriedOn (unit : ℕ) (part : List ℕ) (w : List ℕ) (t : Tables) (told : List ℕ) (r : ℕ) (w' : List ℕ) (u : Tables) (told' : List ℕ) : Type 0 where
  pub carried : Carried
  pub carries : Carries (tally_in w) t told carried u told' unit part
  pub answer : r ≡ answer_word (answer_card carried.answer)
  pub tally : w' ≡ carried_words carried.answer carried.tally w

-- docs/BOUNDARY.md: the unit named is judged first (1), then the tally's words (2), then all as `carry_on` judges it
unfoldable pub worded : ℕ → List ℕ → Result ⊤ Refusal
worded unit w = pick (is_unit unit) (pick (enough w) fine (Err Short)) (Err Setting)

module _ (unit : ℕ) (part : List ℕ) (w : List ℕ) (t : Tables) (told : List ℕ) (r : ℕ) (w' : List ℕ) (u : Tables) (told' : List ℕ) where
  abbrev pub WordsSettle : Result ⊤ Refusal → Type 0
  WordsSettle (Err x) = Untouched (card_of x) w t told r w' u told'
  WordsSettle (Ok tt) = CarriedOn unit part w t told r w' u told'

  -- docs/BOUNDARY.md, what `snailstamp_carry_on` promises: told are the events at entry, told' at exit
  pub record CarriedWords : Type 0 where
    pub judged : WordsSettle (worded unit w)

-- document 01, "How much each promise says": on a refusal every lent entry is equal; else nothing is free but which place a file takes, and the queue's order
pub record AlikeWords (w : List ℕ) (r₁ r₂ : ℕ) (w₁ w₂ : List ℕ) (u₁ u₂ : Tables) (told₁ told₂ : List ℕ) : Type 0 where
  pub answer : r₁ ≡ r₂
  pub tally : w₁ ≡ w₂
  pub events : told₁ ≡ told₂
  pub refused : (r₁ % 256 ≡ 0 → ⊥) → u₁ ≡ u₂
  pub done : r₁ % 256 ≡ 0 → Renamed (tally_in w).settings (tally_in w₁).files_kept u₁ u₂
  pub past : beyond_of (tally_in w).settings u₁ ≡ beyond_of (tally_in w).settings u₂
