-- What the ratios promise in a word and doubles (docs/BOUNDARY.md). Assumes nothing.
use Rattle.std.specs.Prelude.{◌≡◌, Bool, true, false, List, [], ℕ, leb, length, Float}
use Rattle.amounts.specs.Limits.{pick}
use Rattle.card.specs.Card.{refused}
use Rattle.trace.specs.Promise.{over}
use Rattle.ratios.specs.Ratios.{RatioCard, refusing, Rates}
use Rattle.words.specs.Words.{answer_word, tally_in}
use Rattle.snailstamp.specs.Run.{enough}

-- docs/BOUNDARY.md: 6 where the list has no room for the doubles, after every other refusal
abbrev pub fitted : List Float → RatioCard → RatioCard
fitted l x = pick (leb (length x.doubles) (length l)) x (refusing (refused 6 []))

-- docs/BOUNDARY.md: where x is due, the answer is r, and l' is left of the list l
pub record PutRated (x : RatioCard) (l : List Float) (r : ℕ) (l' : List Float) : Type 0 where
  pub answer : r ≡ answer_word (fitted l x).card
  pub list : l' ≡ over (fitted l x).doubles l

-- docs/BOUNDARY.md: 2 where the tally has too few words, else what `ratios_of` promises of the tally that they stand for
abbrev pub RatesWords : List ℕ → RatioCard → Bool → Type 0
RatesWords w x false = x ≡ refusing (refused 2 [])
RatesWords w x true = Rates (tally_in w) x

-- docs/BOUNDARY.md, what `snailstamp_ratios` promises: w are the tally's words, l is the list at entry, l' at exit
pub record RatioWords (w : List ℕ) (l : List Float) (r : ℕ) (l' : List Float) : Type 0 where
  pub due : RatioCard
  pub rates : RatesWords w due (enough w)
  pub put : PutRated due l r l'
