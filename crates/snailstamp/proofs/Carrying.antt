-- A run carried on in words, by the ways through it. Assumes nothing.
use mathlib.Core.Path.{◌≡◌, refl, subst}
use mathlib.Core.Bool.{true, false}
use mathlib.Core.List.{List}
use Prim.Native.Nat.{ℕ}
use Rattle.std.specs.Prelude.{Result}
use Rattle.amounts.specs.Limits.{is_unit}
use Rattle.card.specs.Card.{card_of}
use Rattle.card.specs.declared.Refusal.{Refusal}
use Rattle.card.specs.declared.Refusal.TheVariants.{Setting, Short}
use Rattle.tables.specs.Tables.{Tables}
use Rattle.tables.specs.declared.tally.Tally.{Tally}
use Rattle.parts.specs.declared.Ended.{Ended}
use Rattle.replay.specs.Carrying.{carried, Carries}
use Rattle.words.specs.Words.{answer_word, tally_in}
use Rattle.snailstamp.specs.Steps.{PutEnded}
use Rattle.snailstamp.specs.Run.{enough, worded, CarriedWords}

module _ (unit : ℕ) (part w : List ℕ) (t : Tables) (told : List ℕ) (r : ℕ) where
  pub carried_setting : is_unit unit ≡ false → r ≡ answer_word (card_of Setting) → CarriedWords unit part w t told r w t told
  unfolding worded
  carried_setting h e = record { judged = rw h (record { answer = e; tally = refl; lent = refl; untold = refl }) }

  pub carried_few : is_unit unit ≡ true → enough w ≡ false → r ≡ answer_word (card_of Short) → CarriedWords unit part w t told r w t told
  unfolding worded
  carried_few h k e = record { judged = rw (h, k) (record { answer = e; tally = refl; lent = refl; untold = refl }) }

  pub carried_on : (w' : List ℕ) (u : Tables) (told' : List ℕ) (a : Tally) (x : Result Ended Refusal) → is_unit unit ≡ true → enough w ≡ true → a ≡ tally_in w → Carries a t told (carried a x) u told' unit part
      → PutEnded x w r w' → CarriedWords unit part w t told r w' u told'
  unfolding worded
  carried_on w' u told' a x h k q c p =
      let y = p.put (tally_in w) in
      record {
        judged =
            rw (h, k) (record {
              carried = carried (tally_in w) x;
              carries = subst (λ (b : Tally). Carries b t told (carried b x) u told' unit part) q c;
              answer = y.answer;
              tally = y.tally;
            });
      }
