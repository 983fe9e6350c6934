-- `writer::lists::put_part` meets its contract: at the loop's head the requests that are left make of the list what all of them make of the list at entry. Assumes nothing.
use Rattle.trace.specs.Writing.{part_bytes}
use Rattle.trace.proofs.Laying.{Left}
use Rattle.trace.proofs.Listing.{rest_at}
use Rattle.writer.specs.Rows.{requests_of}
use Rattle.writer.proofs.lists.put_part.Given as goal

abbrev pub invariant-loop-i : goal.invariant-loop-i
invariant-loop-i l =
    Left (part_bytes (requests_of l.rows)) l.from l.initial.out (part_bytes (rest_at l.rows.files.now l.rows.sizes.now l.rows.costs.now l.i)) l.at l.out
