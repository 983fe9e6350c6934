-- `snailstamp::run::snailstamp_carry_on` meets its contract. Assumes nothing.
use borrow.Author.Tests.{lt-leb, le-leb}
use Rattle.amounts.proofs.Tests.{told}
use Rattle.snailstamp.proofs.Carrying.{carried_setting, carried_few, carried_on}
use Rattle.snailstamp.proofs.run.snailstamp_carry_on.Goals as goal

pub returns-then-not-is_unit : goal.returns-then-not-is_unit
returns-then-not-is_unit c = carried_setting _ _ _ _ _ _ (told c.is_unit.ensures c.if-not-is_unit.true) c.refusal_word.ensures

pub returns-then-tally-lt-TALLY_WORDS : goal.returns-then-tally-lt-TALLY_WORDS
returns-then-tally-lt-TALLY_WORDS c =
    carried_few _ _ _ _ _ _ (told c.is_unit.ensures c.if-not-is_unit.false) (lt-leb _ _ c.if-tally-lt-TALLY_WORDS.true) c.refusal_word-then-tally-lt-TALLY_WORDS.ensures

pub returns : goal.returns
returns c =
    carried_on _ _ _ _ _ _ _ _ _ _ _ (told c.is_unit.ensures c.if-not-is_unit.false) (le-leb _ _ c.if-tally-lt-TALLY_WORDS.false)
    c.tally_from-a.ensures c.carry_on-carried.ensures c.put_carried.ensures
