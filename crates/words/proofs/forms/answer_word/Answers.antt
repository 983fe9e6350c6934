-- `words::forms::answer_word` meets its contract. Assumes nothing.
use mathlib.Core.Path.{ap, sym, ◌∙◌}
use Rattle.std.specs.Prelude.{ℕ, Result}
use Rattle.card.specs.declared.Refusal.{Refusal}
use Rattle.trace.specs.Cards.{answer_card}
use Rattle.words.specs.Words.{answer_word}
use Rattle.words.proofs.forms.answer_word.Goals as goal

pub returns-in-Ok : goal.returns-in-Ok
unfolding answer_word
returns-in-Ok c = c.word.ensures ∙ ap (λ (a : Result ℕ Refusal). answer_word (answer_card a)) (sym c.in-Ok.is)
