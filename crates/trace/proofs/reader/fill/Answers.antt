-- `trace::reader::fill` meets its contract: at the loop's head the stores that are left make of the lists what all of them make of those at entry. Assumes nothing.
use native.Mathlib.Omega.{arith}
use Rattle.trace.proofs.Filling.{filling_there, filling_more, filling_end}
use Rattle.trace.proofs.reader.fill.Goals as goal

pub request_at-taken-requires : goal.request_at-taken-requires
request_at-taken-requires c = filling_there _ _ _ _ _ _ _ c.requires _ _ _ _ _ c.loop-i.invariant.1 c.loop-i-test.true

pub loop-i-preserved : goal.loop-i-preserved
loop-i-preserved c = (
  omega arith,
  filling_more _ _ _ _ _ _ _ c.requires _ _ _ _ _ c.loop-i.invariant.1 c.loop-i-test.true _ c.request_at-taken.ensures,
)

pub returns : goal.returns
returns c = filling_end _ _ _ _ _ _ _ c.requires _ _ _ _ _ c.loop-i.invariant.1 c.loop-i-test.false
