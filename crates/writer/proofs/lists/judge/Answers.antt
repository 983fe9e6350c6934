-- `writer::lists::judge` meets its contract. Assumes nothing.
use native.Mathlib.Omega.{arith}
use Rattle.trace.proofs.Listing.{judged_range, judged_room}
use Rattle.writer.proofs.lists.judge.Goals as goal

pub returns-then-bad-len : goal.returns-then-bad-len
returns-then-bad-len c = judged_range _ _ _ _ _ _ c.args.rows.listed _ c.first_out-bad.ensures (omega arith)

pub returns : goal.returns
returns c = judged_room _ _ _ _ _ _ c.args.rows.listed _ c.first_out-bad.ensures (omega arith) _ c.measure.ensures
