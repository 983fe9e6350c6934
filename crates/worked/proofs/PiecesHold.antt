-- The bench pieces of document 01 that are marked P, as a single statement over one list, and the product of document 02, ticket 6. Assumes nothing.
use Rattle.std.specs.Prelude.{◌≡◌, refl}
use Rattle.amounts.specs.Limits.{one_to}
use Rattle.amounts.specs.Worth.{worth_of, product_of, packets, in_force}
use Rattle.amounts.specs.Order.{lower_of}
use Rattle.method.specs.Shelf.{sum, lowest}
use Rattle.method.specs.Method.{run, step, clear, admit}
use Rattle.method.specs.Events.{events}
use Rattle.method.specs.Totals.{totals}
use Rattle.trace.specs.Reading.{read_of, settings_of, file_read}
use Rattle.worked.specs.Pieces.{computed, expected}

pub pieces : computed ≡ expected
unfolding worth_of product_of packets in_force lower_of one_to run events totals step admit clear lowest sum read_of settings_of file_read
pieces = refl
