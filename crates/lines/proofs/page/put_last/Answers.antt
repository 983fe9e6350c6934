-- `lines::page::put_last` meets its contract. Assumes nothing.
use Rattle.trace.proofs.Laying.{laid_then}
use Rattle.lines.proofs.page.put_last.Goals as goal

pub returns : goal.returns
returns c =
    laid_then _ _ _ _ _ _ c.put_item-at_inflation.ensures _ _ (laid_then _ _ _ _ _ _ c.put_item-at_used.ensures _ _
    (laid_then _ _ _ _ _ _ c.put_item-at_files.ensures _ _ c.put_item.ensures))
