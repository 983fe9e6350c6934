-- `words::forms::refusal_word` meets its contract. Assumes nothing.
use mathlib.Core.Path.{◌∙◌}
use Rattle.words.specs.Words.{answer_word}
use Rattle.words.proofs.Wording.{word_eq}
use Rattle.words.proofs.forms.refusal_word.Goals as goal

pub returns : goal.returns
unfolding answer_word
returns c = c.word.ensures ∙ word_eq c.value.ensures c.number.ensures
