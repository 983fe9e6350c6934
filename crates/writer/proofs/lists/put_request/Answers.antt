-- `writer::lists::put_request` meets its contract. Assumes nothing.
use Rattle.trace.proofs.Laying.{laid_then}
use Rattle.writer.proofs.lists.put_request.Goals as goal

pub returns : goal.returns
returns c =
    laid_then _ _ _ _ _ _ c.put_number-at_size.ensures _ _ (laid_then _ _ _ _ _ _ c.put_number-at_cost.ensures _ _ c.put_number.ensures)
