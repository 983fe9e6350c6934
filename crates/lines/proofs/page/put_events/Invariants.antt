-- `lines::page::put_events` meets its contract: at the loop's head the lines that are left make of the list what all of them make of the list at entry. Assumes nothing.
use lib.ListN.{drop}
use Rattle.trace.proofs.Laying.{Left}
use Rattle.lines.specs.Lines.{event_lines}
use Rattle.lines.proofs.page.put_events.Given as goal

abbrev pub invariant-loop-event : goal.invariant-loop-event
invariant-loop-event l = Left (event_lines l.events) l.from l.initial.out (event_lines (drop l.event-index l.events)) l.at l.out
