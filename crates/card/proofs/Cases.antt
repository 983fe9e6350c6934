-- The refusals, case by case: the one list of them, and what the promises read off it. Assumes nothing.
use Prim.Native.Nat.{ℕ, ◌-◌, ◌≤◌}
use mathlib.Core.Path.{◌≡◌, refl, ap, sym, ◌∙◌}
use mathlib.Core.Bool.{cond}
use mathlib.Core.List.{List, [], ◌∷◌}
use native.Mathlib.Omega.{arith}
use borrow.Author.Tests.{ne_eqb}
use lib.Dec.{eqb}
use lib.ListN.{get_or}
use Rattle.card.specs.Card.{Card, done, card_of, value_of}
use Rattle.card.specs.declared.Refusal.{Refusal}
use Rattle.card.specs.declared.Refusal.TheVariants.{Setting, Short, Form, Range, TooMany, Room, Unsound, OtherUnit, TooLong, Line, NoRequests, Inexact}

-- the refusals by their numbers, from 1 on
abbrev pub refusals : ℕ → List Refusal
refusals v = Setting ∷ Short ∷ Form v ∷ Range v ∷ TooMany ∷ Room ∷ Unsound ∷ OtherUnit ∷ TooLong ∷ Line v ∷ NoRequests ∷ Inexact ∷ []

-- the refusal on a card
abbrev pub refusal_on : Card → Refusal
refusal_on c = get_or (refusals (value_of c)) (c.number - 1) Setting

-- a refusal can be read back from its card, and its number is 1 to 12
pub record OnCard (x : Refusal) : Type 0 where
  pub back : refusal_on (card_of x) ≡ x
  pub least : 1 ≤ (card_of x).number
  pub most : (card_of x).number ≤ 12

pub on_card : (x : Refusal) → OnCard x
on_card Setting = record { back = refl; least = omega arith; most = omega arith }
on_card Short = record { back = refl; least = omega arith; most = omega arith }
on_card (Form v) = record { back = refl; least = omega arith; most = omega arith }
on_card (Range v) = record { back = refl; least = omega arith; most = omega arith }
on_card TooMany = record { back = refl; least = omega arith; most = omega arith }
on_card Room = record { back = refl; least = omega arith; most = omega arith }
on_card Unsound = record { back = refl; least = omega arith; most = omega arith }
on_card OtherUnit = record { back = refl; least = omega arith; most = omega arith }
on_card TooLong = record { back = refl; least = omega arith; most = omega arith }
on_card (Line v) = record { back = refl; least = omega arith; most = omega arith }
on_card NoRequests = record { back = refl; least = omega arith; most = omega arith }
on_card Inexact = record { back = refl; least = omega arith; most = omega arith }

-- document 01, "Numbers on the red card": 0 is no refusal's number
pub refusal_not_done : (x : Refusal) → (card_of x).number ≡ 0 → ⊥
refusal_not_done x e = omega (arith, (on_card x).least, e)

pub done_not_refused : {vs : List ℕ} (x : Refusal) → done vs ≡ card_of x → ⊥
done_not_refused x e = refusal_not_done x (sym (ap (λ (c : Card). c.number) e))

-- no two refusals have the same card
pub refusal_one : (x y : Refusal) → card_of x ≡ card_of y → x ≡ y
refusal_one x y e = sym (on_card x).back ∙ ap refusal_on e ∙ (on_card y).back

-- an answer is read back from its card: what `good` makes of the values where it is done, else what `bad` makes of the refusal
module _ {A : Type 0} (good : List ℕ → A) (bad : Refusal → A) where
  abbrev pub answer_on : Card → A
  answer_on c = cond (eqb c.number 0) (good c.values) (bad (refusal_on c))

  pub bad_on : (x : Refusal) → answer_on (card_of x) ≡ bad x
  bad_on x = rw (ne_eqb _ 0 (refusal_not_done x)) (ap bad (on_card x).back)
