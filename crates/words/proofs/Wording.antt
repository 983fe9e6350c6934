-- Words: what an answer's word keeps, and that a tally is found again in its words. Assumes nothing.
use mathlib.Core.Path.{◌≡◌, refl}
use mathlib.Core.List.{List}
use Prim.Native.Nat.{ℕ, ◌/◌, ◌%◌, ◌<◌}
use native.Mathlib.Omega.{arith}
use Rattle.card.specs.Card.{Card, value_of, card_of}
use Rattle.card.specs.declared.Refusal.{Refusal}
use Rattle.card.proofs.Cases.{on_card}
use Rattle.trace.specs.Promise.{over}
use Rattle.tables.specs.Start.{words}
use Rattle.tables.specs.declared.tally.Tally.{Tally}
use Rattle.words.specs.Words.{word_of, answer_word, tally_in}

-- every number of the card has room in a byte
pub number_small : (x : Refusal) → (card_of x).number < 256
number_small x = omega (arith, (on_card x).most)

pub word_eq : {v v' n n' : ℕ} → v ≡ v' → n ≡ n' → word_of v n ≡ word_of v' n'
word_eq p q = λ i. word_of (p i) (q i)

-- the number and the value are read back from the word
pub number_in : (c : Card) → c.number < 256 → answer_word c % 256 ≡ c.number
unfolding answer_word word_of
number_in c h = omega arith

pub value_in : (c : Card) → c.number < 256 → value_of c < 72057594037927936 → answer_word c / 256 ≡ value_of c
unfolding answer_word word_of
value_in c h k = omega arith

-- the words of a tally stand for it, whatever words follow: the next call finds the tally that the last one left
pub tally_over : (a : Tally) (w : List ℕ) → tally_in (over (words a) w) ≡ a
unfolding tally_in
tally_over a w = refl
