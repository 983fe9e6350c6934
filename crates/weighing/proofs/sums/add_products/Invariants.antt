-- `weighing::sums::add_products` meets its contract. Assumes nothing.
use Rattle.tables.specs.Lent.{shown}
use Rattle.weighing.proofs.Adding.{Adding}
use Rattle.weighing.proofs.sums.add_products.Given as goal

abbrev pub invariant-loop-home : goal.invariant-loop-home
invariant-loop-home l = Adding l.initial.sum (shown l.t) l.home-index l.sum
