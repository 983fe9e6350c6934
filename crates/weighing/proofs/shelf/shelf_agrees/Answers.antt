-- `weighing::shelf::shelf_agrees` meets its contract. Assumes nothing.
use Rattle.tables.specs.Lent.{shown}
use Rattle.tables.proofs.Answers.{passed}
use Rattle.weighing.proofs.Shelving.{weighable}
use Rattle.weighing.proofs.shelf.shelf_agrees.Goals as goal

pub sums_agree-requires-clause-weighable : goal.sums_agree-requires-clause-weighable
sums_agree-requires-clause-weighable c = weighable _ (shown c.args.t) c.requires (passed c.all_lawful.ensures c.if-all_lawful.true)
