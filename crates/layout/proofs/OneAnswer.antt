-- The promise of the sheet admits one answer and one content of the lent buffer (document 01, "How much each promise says"). Assumes nothing.
use Prim.Native.Nat.{ℕ, ◌≤◌}
use mathlib.Core.Path.{◌≡◌, ap, sym, ◌∙◌}
use mathlib.Core.Bool.{Bool, true, false}
use mathlib.Core.List.{List, [], ◌∷◌}
use native.Mathlib.Omega.{arith}
use lib.ListN.{length, drop, get_or, length-append}
use Rattle.std.specs.Prelude.{Result, Ok}
use Rattle.amounts.specs.Limits.{pick}
use Rattle.card.specs.Card.{Card, done, refused}
use Rattle.card.specs.declared.Refusal.{Refusal}
use Rattle.trace.specs.Cards.{answer_card}
use Rattle.trace.specs.Promise.{over}
use Rattle.trace.proofs.OneAnswer.{answer_one}
use Rattle.layout.specs.Sheet.{sheet_of}
use Rattle.layout.specs.Promise.{has_room, Sheeted}

-- two results that meet the promise are the same result
pub sheet_one_answer : (trace out : List ℕ) (r r' : Result ℕ Refusal) (out₁ out₂ : List ℕ) → Sheeted trace out r out₁ → Sheeted trace out r' out₂ → (r ≡ r') × (out₁ ≡ out₂)
sheet_one_answer trace out r r' out₁ out₂ f g = (answer_one r r' (f.answer ∙ sym g.answer), f.buffer ∙ sym g.buffer)

-- as many bytes as a call that is done counts are there
pub sheet_count : (trace out : List ℕ) (r : Result ℕ Refusal) (out' : List ℕ) → Sheeted trace out r out' → (n : ℕ) → r ≡ Ok n → n ≤ length out'
sheet_count trace out r out' f n e = go (has_room trace out) (sym (ap answer_card e) ∙ f.answer) f.buffer
  where
    go : (t : Bool) → done (n ∷ []) ≡ pick t (done (length (sheet_of trace) ∷ [])) (refused 6 []) → out' ≡ pick t (over (sheet_of trace) out) out → n ≤ length out'
    go true a b = let m : n ≡ length (sheet_of trace) = ap (λ (c : Card). get_or c.values 0 0) a in omega (arith, ap length b, length-append (sheet_of trace) (drop (length (sheet_of trace)) out))
    go false a b = absurd (omega (arith, ap (λ (c : Card). c.number) a))
