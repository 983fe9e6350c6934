-- `writer::number::width` meets its contract. Assumes nothing.
use Rattle.trace.proofs.Spelling.{Counting}
use Rattle.writer.proofs.number.width.Given as goal

abbrev pub invariant-loop-rest : goal.invariant-loop-rest
invariant-loop-rest l = Counting l.n l.rest l.groups

abbrev pub decreases-loop-rest : goal.decreases-loop-rest
decreases-loop-rest l = l.rest
