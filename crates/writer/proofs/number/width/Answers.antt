-- `writer::number::width` meets its contract. Assumes nothing.
use Rattle.trace.proofs.Spelling.{counting_first}
use Rattle.writer.proofs.number.width.Goals as goal

pub loop-rest-init : goal.loop-rest-init
loop-rest-init c = counting_first _ c.requires
