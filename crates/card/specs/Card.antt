-- The red card: the number and the values that document 01, "Numbers on the red card", and the tickets of document 02 give for each case. Assumes nothing.
use Rattle.std.specs.Prelude.{ℕ, List, [], ◌∷◌, get_or}
use Rattle.card.specs.declared.Refusal.{Refusal}
use Rattle.card.specs.declared.Refusal.TheVariants.{Setting, Short, Form, Range, TooMany, Room, Unsound, OtherUnit, TooLong, Line, NoRequests, Inexact}

-- what a call gives back, in the paper's numbers
pub record Card : Type 0 where
  pub number : ℕ
  pub values : List ℕ

-- 0: done, with the result
abbrev pub done : List ℕ → Card
done vs = record { number = 0; values = vs }

abbrev pub refused : ℕ → List ℕ → Card
refused n vs = record { number = n; values = vs }

-- the paper's number and values of each refusal
abbrev pub card_of : Refusal → Card
card_of Setting = refused 1 []
card_of Short = refused 2 []
card_of (Form offset) = refused 3 (offset ∷ [])
card_of (Range at) = refused 4 (at ∷ [])
card_of TooMany = refused 5 []
card_of Room = refused 6 []
card_of Unsound = refused 7 []
card_of OtherUnit = refused 8 []
card_of TooLong = refused 9 []
card_of (Line at) = refused 10 (at ∷ [])
card_of NoRequests = refused 11 []
card_of Inexact = refused 12 []

-- the one value of a refusal, 0 where the paper says "number only"
abbrev pub value_of : Card → ℕ
value_of c = get_or c.values 0 0
