-- `trace::reader::scan` meets its contract: at the loop's head the answer of the whole is the answer of what is left. Assumes nothing.
use Rattle.trace.proofs.Scanning.{count_end}
use Rattle.trace.proofs.reader.scan.Goals as goal

pub returns : goal.returns
returns c = count_end _ _ _ _ _ c.loop-at.invariant.2 c.loop-at-test.false
