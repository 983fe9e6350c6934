-- `weighing::shelf::sums_agree` meets its contract. Assumes nothing.
use mathlib.Core.Path.{◌∙◌}
use native.Mathlib.Omega.{arith}
use Rattle.std.proofs.Common.{rules, ◌≡◌, ◌≤◌}
use Rattle.large.proofs.Comparing.{le_value}
use Rattle.weighing.proofs.Laws.{balanced_last}
use Rattle.tables.proofs.Answers.{answer_no}
use Rattle.weighing.proofs.shelf.sums_agree.Goals as goal

-- the sums are the shelf's
pub returns-then-sums-a : goal.returns-then-sums-a
returns-then-sums-a c =
    let summed = c.sum_kept-sums.ensures in
    answer_no (λ s. c.if-sums-a.true (summed.files ∙ s.files))

pub returns-then-ne : goal.returns-then-ne
returns-then-ne c =
    let summed = c.sum_kept-sums.ensures in
    answer_no (λ s. let same : c.sum_kept-sums.result.bytes.0 ≡ c.args.a.bytes_kept.0 = summed.bytes ∙ s.bytes in search rules)

pub returns-then-a-sums : goal.returns-then-a-sums
returns-then-a-sums c =
    let summed = c.sum_kept-sums.ensures in
    answer_no (λ s. omega (arith, summed.freqs, s.freqs, c.if-a-sums.true))

pub returns : goal.returns
returns c =
    let summed = c.sum_kept-sums.ensures in
    let same : c.sum_kept-sums.result.bytes.0 ≡ c.args.a.bytes_kept.0 = search rules in
    let fits : c.args.a.bytes_kept.0 ≤ c.args.a.settings.capacity.0 = search rules in
    balanced_last _ _ c.worths-most.ensures summed c.if-sums-a.false same fits c.if-a-sums.false c.whole-whole.ensures c.add_products.ensures (c.le.ensures ∙ le_value _ _)
