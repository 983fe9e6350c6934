-- `snailstamp::rates::snailstamp_ratios` meets its contract. Assumes nothing.
use borrow.Author.Tests.{lt-leb}
use Rattle.snailstamp.proofs.Rating.{ratios_few}
use Rattle.snailstamp.proofs.rates.snailstamp_ratios.Goals as goal

pub returns-then-tally-lt-TALLY_WORDS : goal.returns-then-tally-lt-TALLY_WORDS
returns-then-tally-lt-TALLY_WORDS c = ratios_few _ _ _ (lt-leb _ _ c.if-tally-lt-TALLY_WORDS.true) c.refusal_word.ensures
