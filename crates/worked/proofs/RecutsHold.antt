-- The recuts of document 02, ticket 2, under both policies, as a single statement over one list. Assumes nothing.
use Rattle.std.specs.Prelude.{◌≡◌, refl}
use Rattle.amounts.specs.Worth.{worth_of, product_of, packets, in_force}
use Rattle.amounts.specs.Order.{lower_of}
use Rattle.method.specs.Shelf.{sum, lowest}
use Rattle.method.specs.Method.{run, step, clear, admit}
use Rattle.method.specs.Events.{events}
use Rattle.method.specs.Totals.{totals}
use Rattle.worked.specs.Recuts.{computed, expected}

pub recuts : computed ≡ expected
unfolding worth_of product_of packets in_force lower_of run events totals step admit clear lowest sum
recuts = refl
