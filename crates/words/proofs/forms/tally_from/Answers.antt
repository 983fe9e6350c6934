-- `words::forms::tally_from` meets its contract. Assumes nothing.
use Rattle.words.specs.Words.{tally_in}
use Rattle.words.proofs.forms.tally_from.Goals as goal

pub returns : goal.returns
unfolding tally_in
returns c = rw c.settings_from-settings.ensures
