-- `writer::lists::first_out` meets its contract: at the loop's head the first request out of range is not among those passed. Assumes nothing.
use Prim.Native.Nat.{◌+◌}
use mathlib.Core.Path.{◌≡◌}
use Rattle.trace.specs.Writing.{first_out}
use Rattle.trace.proofs.Listing.{rest_at}
use Rattle.writer.specs.Rows.{requests_of}
use Rattle.writer.proofs.lists.first_out.Given as goal

abbrev pub invariant-loop-i : goal.invariant-loop-i
invariant-loop-i l =
    first_out l.catalogue.0 (requests_of l.rows) ≡ l.i + first_out l.catalogue.0 (rest_at l.rows.files.now l.rows.sizes.now l.rows.costs.now l.i)
