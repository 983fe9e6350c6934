-- `writer::number::put_number` meets its contract: at the loop's head the groups that are left make of the list what all of them make of the list at entry. Assumes nothing.
use Rattle.trace.proofs.Spelling.{putting_first}
use Rattle.writer.proofs.number.put_number.Goals as goal

pub loop-left-init : goal.loop-left-init
loop-left-init c = putting_first _ _ _ c.requires.n_le_number_most
