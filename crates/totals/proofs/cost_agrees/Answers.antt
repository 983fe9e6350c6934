-- `totals::cost_agrees` meets its contract. Assumes nothing.
use Rattle.std.proofs.Common.{rules}
use Rattle.amounts.proofs.Tests.{told}
use Rattle.tables.proofs.Answers.{answer_denied}
use Rattle.totals.proofs.Amounts.{amount_hit, amount_last}
use Rattle.totals.proofs.cost_agrees.Goals as goal

pub returns-then-not-is_total_of : goal.returns-then-not-is_total_of
returns-then-not-is_total_of c = answer_denied c.is_total_of.ensures c.if-not-is_total_of.true amount_hit

pub returns : goal.returns
returns c = amount_last (told c.is_total_of.ensures c.if-not-is_total_of.false) (search rules) c.is_total_of-2.ensures
