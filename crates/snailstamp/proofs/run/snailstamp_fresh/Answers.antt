-- `snailstamp::run::snailstamp_fresh` meets its contract. Assumes nothing.
use mathlib.Core.Path.{ap, sym, ◌∙◌}
use borrow.Author.Tests.{lt-leb, le-leb}
use Rattle.amounts.specs.Settings.{in_range}
use Rattle.amounts.proofs.Tests.{told}
use Rattle.snailstamp.proofs.Starting.{fresh_setting, fresh_few, fresh_put}
use Rattle.snailstamp.proofs.run.snailstamp_fresh.Goals as goal

pub returns-then-not-in_range : goal.returns-then-not-in_range
returns-then-not-in_range c =
    rw c.refusal_word.ensures
    (fresh_setting _ _ _ (ap in_range (sym c.settings_from-settings.ensures) ∙ told c.in_range.ensures c.if-not-in_range.true))

pub returns-then-tally-lt-TALLY_WORDS : goal.returns-then-tally-lt-TALLY_WORDS
returns-then-tally-lt-TALLY_WORDS c =
    let made = c.settings_from-settings.ensures in
    let ranged = ap in_range (sym made) ∙ told c.in_range.ensures c.if-not-in_range.false in
    rw c.refusal_word-then-tally-lt-TALLY_WORDS.ensures (fresh_few _ _ _ ranged (lt-leb _ _ c.if-tally-lt-TALLY_WORDS.true))

pub returns : goal.returns
returns c =
    let made = c.settings_from-settings.ensures in
    let ranged = ap in_range (sym made) ∙ told c.in_range.ensures c.if-not-in_range.false in
    fresh_put _ _ _ ranged (le-leb _ _ c.if-tally-lt-TALLY_WORDS.false) _ _ _ made c.fresh-started.ensures _ _ c.put_started.ensures
