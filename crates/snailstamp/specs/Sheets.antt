-- What the sheet promises in words (docs/BOUNDARY.md). Assumes nothing.
use Rattle.std.specs.Prelude.{◌≡◌, List, [], ◌∷◌, ℕ, length}
use Rattle.amounts.specs.Limits.{pick}
use Rattle.card.specs.Card.{done, refused}
use Rattle.trace.specs.Promise.{over}
use Rattle.layout.specs.Sheet.{sheet_of}
use Rattle.layout.specs.Promise.{has_room}
use Rattle.words.specs.Words.{answer_word}

-- what `snailstamp_sheet` promises: the sheet over the front of the buffer and its length, or 6 with nothing written
pub record SheetWords (trace o : List ℕ) (r : ℕ) (o' : List ℕ) : Type 0 where
  pub answer : r ≡ answer_word (pick (has_room trace o) (done (length (sheet_of trace) ∷ [])) (refused 6 []))
  pub buffer : o' ≡ pick (has_room trace o) (over (sheet_of trace) o) o
