-- `words::forms::word` meets its contract. Assumes nothing.
use mathlib.Core.Path.{refl}
use Rattle.words.specs.Words.{word_of}
use Rattle.words.proofs.forms.word.Goals as goal

pub returns : goal.returns
unfolding word_of
returns c = refl
