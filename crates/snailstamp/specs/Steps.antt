-- What the functions below the exported ones promise. Assumes nothing.
use Rattle.std.specs.Prelude.{◌≡◌, false, List, ℕ, Result, Ok, Err}
use Rattle.amounts.specs.declared.settings.Settings.{Settings}
use Rattle.card.specs.Card.{card_of}
use Rattle.card.specs.declared.Refusal.{Refusal}
use Rattle.trace.specs.Reading.{stop}
use Rattle.trace.specs.Cards.{answer_card, numbers}
use Rattle.trace.specs.Promise.{over}
use Rattle.tables.specs.Start.{words}
use Rattle.words.specs.Words.{answer_word}
use Rattle.snailstamp.specs.Run.{carried_words}
use Rattle.tables.specs.declared.tally.Tally.{Tally}
use Rattle.snailstamp.specs.Traces.{placed, file_taken}
use Rattle.parts.specs.declared.Ended.{Ended}
use Rattle.replay.specs.Carrying.{Carried, carried}

-- docs/BOUNDARY.md: the word of a fresh start, 0 when done
abbrev pub started_word : Result Tally Refusal → ℕ
started_word (Ok a) = 0
started_word (Err x) = answer_word (card_of x)

-- its tally over the front of the words, none on a refusal
abbrev pub started_words : Result Tally Refusal → List ℕ → List ℕ
started_words (Ok a) w = over (words a) w
started_words (Err x) w = w

-- what `put_started` promises
pub record PutStarted (x : Result Tally Refusal) (w : List ℕ) (r : ℕ) (w' : List ℕ) : Type 0 where
  pub answer : r ≡ started_word x
  pub tally : w' ≡ started_words x w

-- what `put_carried` promises: the word of a run carried on, and its tally's words where it is done
pub record PutCarried (x : Carried) (w : List ℕ) (r : ℕ) (w' : List ℕ) : Type 0 where
  pub answer : r ≡ answer_word (answer_card x.answer)
  pub tally : w' ≡ carried_words x.answer x.tally w

-- so of the call's result x, whatever tally the call was given
pub record PutEnded (x : Result Ended Refusal) (w : List ℕ) (r : ℕ) (w' : List ℕ) : Type 0 where
  pub put : (a : Tally) → PutCarried (carried a x) w r w'

-- docs/BOUNDARY.md: the word of a file read, with the number of requests when done
abbrev pub read_word : Result (Settings × ℕ) Refusal → ℕ
read_word (Ok (s, n)) = answer_word (answer_card (Ok n))
read_word (Err x) = answer_word (card_of x)

-- its settings over the front of the words, none on a refusal
abbrev pub read_words : Result (Settings × ℕ) Refusal → List ℕ → List ℕ
read_words (Ok (s, n)) w = over (numbers s) w
read_words (Err x) w = w

-- what `put_read` promises
pub record PutRead (x : Result (Settings × ℕ) Refusal) (w : List ℕ) (r : ℕ) (w' : List ℕ) : Type 0 where
  pub answer : r ≡ read_word x
  pub settings : w' ≡ read_words x w

-- r is why a file is refused where its settings have no room
pub record Unread (trace : List ℕ) (r : Refusal) : Type 0 where
  pub refused : (w : List ℕ) (n : ℕ) → placed w ≡ false → file_taken trace w n ≡ stop r
