-- `weighing::files::is_right` meets its contract. Assumes nothing.
use native.Mathlib.Omega.{arith}
use lib.Dec.{leb}
use Rattle.std.proofs.Common.{rules, ◌≡◌, ◌≤◌}
use Rattle.amounts.specs.Limits.{size_most}
use Rattle.amounts.specs.Worth.{Valued}
use Rattle.amounts.proofs.Tests.{one_to_lem, told, in_one_to}
use Rattle.weighing.proofs.Laws.{right_last}
use Rattle.tables.proofs.Answers.{answer_denied, passed}
use Rattle.weighing.proofs.files.is_right.Goals as goal

pub returns-then-not-is_size : goal.returns-then-not-is_size
returns-then-not-is_size c = answer_denied c.is_size.ensures c.if-not-is_size.true (λ w. in_one_to size_most _ w.fine.valued.size_least w.fine.valued.size_at_most)

-- size and cost were found in range
pub kept_product-most-requires-clause-valued : goal.kept_product-most-requires-clause-valued
kept_product-most-requires-clause-valued c =
    let size = one_to_lem size_most _ (told c.is_size.ensures c.if-not-is_size.false) in
    record { size_least = size.0; size_at_most = size.1; cost_least = omega arith; cost_at_most = omega arith }

pub returns : goal.returns
returns c =
    let size = one_to_lem size_most _ (told c.is_size.ensures c.if-not-is_size.false) in
    let valued : Valued c.args.size c.args.cost = record { size_least = size.0; size_at_most = size.1; cost_least = omega arith; cost_at_most = omega arith } in
    let least : c.args.inflation.0 ≤ c.args.key.0 = search rules in
    let within : c.le.result ≡ leb c.sub.result.0 c.kept_product-most.result.0 = search rules in
    right_last (record { valued = valued; freq = omega arith; seldom = omega arith; once = passed c.is_once.ensures c.if-not-is_once.false })
    (omega arith) least c.sub.ensures c.kept_product-most.ensures within
