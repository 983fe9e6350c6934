-- `snailstamp::traces::refused_unread` meets its contract. Assumes nothing.
use mathlib.Core.Path.{refl, sym}
use Rattle.trace.proofs.Answers.{start_shut, start_at}
use Rattle.trace.proofs.Scanning.{counted_good, counted_stop}
use Rattle.snailstamp.proofs.Tracing.{unread_shut, unread_stop, unread_room}
use Rattle.snailstamp.proofs.traces.refused_unread.Goals as goal

pub scan-requires : goal.scan-requires
scan-requires c = (start_at _ _ _ _ c.in-Ok.ensures refl).0

pub returns-in-Err : goal.returns-in-Err
returns-in-Err c = unread_shut _ _ (start_shut _ _ _ c.in-Err.ensures refl)

pub returns-in-Err-scan : goal.returns-in-Err-scan
returns-in-Err-scan c = unread_stop _ _ _ (start_at _ _ _ _ c.in-Ok.ensures refl).1 _ (counted_stop _ _ (sym c.in-Err-scan.ensures))

pub returns-in-Ok-scan : goal.returns-in-Ok-scan
returns-in-Ok-scan c = unread_room _ _ _ (start_at _ _ _ _ c.in-Ok.ensures refl).1 _ (counted_good _ _ (sym c.in-Ok-scan.ensures)).0
