-- `lines::page::put_asked` meets its contract. Assumes nothing.
use Rattle.trace.proofs.Laying.{laid_then}
use Rattle.lines.proofs.page.put_asked.Goals as goal

pub returns : goal.returns
returns c = laid_then _ _ _ _ _ _ c.put_item-at_hit.ensures _ _ c.put_item.ensures
