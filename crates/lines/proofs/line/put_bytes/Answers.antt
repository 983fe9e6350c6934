-- `lines::line::put_bytes` meets its contract: what is copied over is what storing byte after byte leaves. Assumes nothing.
use native.Mathlib.Omega.{arith}
use Rattle.lines.proofs.Copying.{copied}
use Rattle.lines.proofs.line.put_bytes.Goals as goal

pub returns : goal.returns
returns c = copied _ _ _ _ _ c.requires c.copy_from_slice.ensures.after (omega arith)
