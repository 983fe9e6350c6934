-- What the entry point answers, in the paper's numbers, and what it leaves in the lent buffer. Assumes nothing.
use Rattle.std.specs.Prelude.{ℕ, ◌≡◌, Bool, List, [], ◌∷◌, leb, length, Result}
use Rattle.amounts.specs.Limits.{pick}
use Rattle.card.specs.Card.{done, refused}
use Rattle.card.specs.declared.Refusal.{Refusal}
use Rattle.trace.specs.Cards.{answer_card}
use Rattle.trace.specs.Promise.{over}
use Rattle.layout.specs.Sheet.{sheet_of}

-- document 01, "Numbers on the red card", 6: whether the buffer is long enough for the sheet
abbrev pub has_room : List ℕ → List ℕ → Bool
has_room trace out = leb (length (sheet_of trace)) (length out)

-- `sheet` answers r, how many bytes it wrote or 6, and leaves out' in the buffer: the sheet over its front, or as it was
pub record Sheeted (trace out : List ℕ) (r : Result ℕ Refusal) (out' : List ℕ) : Type 0 where
  pub answer : answer_card r ≡ pick (has_room trace out) (done (length (sheet_of trace) ∷ [])) (refused 6 [])
  pub buffer : out' ≡ pick (has_room trace out) (over (sheet_of trace) out) out
