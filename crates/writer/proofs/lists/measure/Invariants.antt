-- `writer::lists::measure` meets its contract: at the loop's head the bytes counted and those of the requests that are left make all. Assumes nothing.
use Prim.Native.Nat.{◌+◌, ◌≤◌}
use mathlib.Core.Path.{◌≡◌}
use lib.ListN.{length}
use Rattle.trace.specs.Writing.{part_bytes}
use Rattle.trace.proofs.Listing.{rest_at}
use Rattle.writer.specs.Rows.{requests_of}
use Rattle.writer.proofs.lists.measure.Given as goal

abbrev pub invariant-loop-i : goal.invariant-loop-i
invariant-loop-i l =
    (l.total ≤ l.room)
    × (l.head + length (part_bytes (requests_of l.rows)) ≡ l.total + length (part_bytes (rest_at l.rows.files.now l.rows.sizes.now l.rows.costs.now l.i)))
