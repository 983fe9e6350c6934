-- `lines::page::put_counts` meets its contract. Assumes nothing.
use Rattle.trace.proofs.Laying.{laid_then}
use Rattle.lines.proofs.page.put_counts.Goals as goal

pub returns : goal.returns
returns c =
    laid_then _ _ _ _ _ _ c.put_item-at_hits.ensures _ _ (laid_then _ _ _ _ _ _ c.put_item-at_admitted.ensures _ _
    (laid_then _ _ _ _ _ _ c.put_item-at_passed.ensures _ _ (laid_then _ _ _ _ _ _ c.put_item-at_evicted.ensures _ _
    (laid_then _ _ _ _ _ _ c.put_item-at_dropped.ensures _ _ c.put_item.ensures))))
