-- `dropping::copy::drop_copy` meets its contract. Assumes nothing.
use native.Mathlib.Omega.{arith}
use Rattle.dropping.proofs.Droppings.{some, narrow, holding, among, droppable, gone}
use Rattle.dropping.proofs.copy.drop_copy.Goals as goal

pub overflow_sub-last : goal.overflow_sub-last
overflow_sub-last c = omega (arith, some c.requires)

pub overflow_cast-p : goal.overflow_cast-p
overflow_cast-p c = omega (arith, narrow c.requires)

pub remove-requires : goal.remove-requires
remove-requires c = holding c.requires c.from-at.ensures

pub drop_behind-requires : goal.drop_behind-requires
drop_behind-requires c = droppable c.requires c.from-at.ensures c.remove.ensures

pub without-requires : goal.without-requires
without-requires c = among c.requires c.from.ensures

pub returns-clause-gone : goal.returns-clause-gone
returns-clause-gone c = gone c.requires c.from-at.ensures c.remove.ensures c.drop_behind.ensures.dropped c.from.ensures c.without.ensures
