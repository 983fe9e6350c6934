-- `lines::page::put_events` meets its contract. Assumes nothing.
use Rattle.lines.proofs.Listing.{list_more}
use Rattle.lines.proofs.page.put_events.Goals as goal

pub loop-event-preserved : goal.loop-event-preserved
loop-event-preserved c = list_more _ _ _ _ _ _ c.loop-event.invariant c.loop-event-test.true _ _ c.put_event-at.ensures
