-- Ratios in a word and doubles, by the ways through them. Assumes nothing.
use mathlib.Core.Path.{◌≡◌, refl, ap, sym, ◌∙◌}
use mathlib.Core.Bool.{false}
use mathlib.Core.List.{List, []}
use Prim.Native.Nat.{ℕ, ◌≤◌}
use native.Mathlib.Omega.{arith}
use lib.ListN.{length}
use lib.Ieee.{Float}
use borrow.Author.Tests.{le-leb}
use Rattle.std.specs.Prelude.{Result, Ok}
use Rattle.amounts.proofs.Tests.{pick_true}
use Rattle.card.specs.Card.{Card, refused, card_of}
use Rattle.card.specs.declared.Refusal.{Refusal}
use Rattle.card.specs.declared.Refusal.TheVariants.{Short}
use Rattle.trace.specs.Promise.{over}
use Rattle.ratios.specs.Ratios.{RatioCard, doubles_of, giving, refusing, ratio_card}
use Rattle.ratios.specs.declared.answer.Ratios.{Ratios}
use Rattle.words.specs.Words.{word_of, answer_word, ratio_doubles}
use Rattle.snailstamp.specs.Run.{enough}
use Rattle.snailstamp.specs.Rates.{fitted, PutRated, RatioWords}

module _ (l : List Float) where
  -- ---- what is fitted into the list

  pub fits_refusing : (c : Card) → fitted l (refusing c) ≡ refusing c
  fits_refusing c = pick_true _ _ (le-leb 0 (length l) (omega arith))

  fits_giving : (x : Ratios) → ratio_doubles ≤ length l → fitted l (giving x) ≡ giving x
  fits_giving x h = pick_true _ _ (le-leb 2 (length l) h)

  put : {x y : RatioCard} {r : ℕ} {l' : List Float} → fitted l x ≡ y → r ≡ answer_word y.card → l' ≡ over y.doubles l → PutRated x l r l'
  put e a b = record { answer = a ∙ ap (λ (z : RatioCard). answer_word z.card) (sym e); list = b ∙ ap (λ (z : RatioCard). over z.doubles l) (sym e) }

  -- ---- the ways through `put_rated`

  pub put_done : {x : Result Ratios Refusal} {l' : List Float} (y : Ratios) → x ≡ Ok y → ratio_doubles ≤ length l → l' ≡ over (doubles_of y) l → PutRated (ratio_card x) l 0 l'
  unfolding answer_word word_of
  put_done y q h e = put (ap (λ (z : Result Ratios Refusal). fitted l (ratio_card z)) q ∙ fits_giving y h) refl e

  -- ---- the ways through `snailstamp_ratios`

  module _ (w : List ℕ) (r : ℕ) where
    pub ratios_few : enough w ≡ false → r ≡ answer_word (card_of Short) → RatioWords w l r l
    ratios_few h e = record { due = refusing (refused 2 []); rates = rw h refl; put = put (fits_refusing (refused 2 [])) e refl }
