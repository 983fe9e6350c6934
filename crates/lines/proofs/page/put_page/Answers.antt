-- `lines::page::put_page` meets its contract: line by line. Assumes nothing.
use Rattle.trace.proofs.Laying.{roomy_front, roomy_next, laid_then}
use Rattle.lines.specs.Lines.{page}
use Rattle.lines.proofs.page.put_page.Goals as goal

pub put_item-at_events-requires : goal.put_item-at_events-requires
unfolding page
put_item-at_events-requires c = roomy_front _ _ _ _ c.requires

-- after each line, there is room for those that are left
pub put_events-at_counts-requires : goal.put_events-at_counts-requires
unfolding page
put_events-at_counts-requires c =
    let room-events = roomy_next _ _ _ _ _ _ c.put_item-at_events.ensures c.requires in
    roomy_front _ _ _ _ room-events

pub put_counts-at_bytes-requires : goal.put_counts-at_bytes-requires
unfolding page
put_counts-at_bytes-requires c =
    let room-events = roomy_next _ _ _ _ _ _ c.put_item-at_events.ensures c.requires in
    let room-counts = roomy_next _ _ _ _ _ _ c.put_events-at_counts.ensures room-events in
    roomy_front _ _ _ _ room-counts

pub put_asked-at_costs-requires : goal.put_asked-at_costs-requires
unfolding page
put_asked-at_costs-requires c =
    let room-events = roomy_next _ _ _ _ _ _ c.put_item-at_events.ensures c.requires in
    let room-counts = roomy_next _ _ _ _ _ _ c.put_events-at_counts.ensures room-events in
    let room-bytes = roomy_next _ _ _ _ _ _ c.put_counts-at_bytes.ensures room-counts in
    roomy_front _ _ _ _ room-bytes

pub put_asked-at_last-requires : goal.put_asked-at_last-requires
unfolding page
put_asked-at_last-requires c =
    let room-events = roomy_next _ _ _ _ _ _ c.put_item-at_events.ensures c.requires in
    let room-counts = roomy_next _ _ _ _ _ _ c.put_events-at_counts.ensures room-events in
    let room-bytes = roomy_next _ _ _ _ _ _ c.put_counts-at_bytes.ensures room-counts in
    let room_costs = roomy_next _ _ _ _ _ _ c.put_asked-at_costs.ensures room-bytes in
    roomy_front _ _ _ _ room_costs

pub put_last-requires : goal.put_last-requires
unfolding page
put_last-requires c =
    let room-events = roomy_next _ _ _ _ _ _ c.put_item-at_events.ensures c.requires in
    let room-counts = roomy_next _ _ _ _ _ _ c.put_events-at_counts.ensures room-events in
    let room-bytes = roomy_next _ _ _ _ _ _ c.put_counts-at_bytes.ensures room-counts in
    let room_costs = roomy_next _ _ _ _ _ _ c.put_asked-at_costs.ensures room-bytes in
    let room-last = roomy_next _ _ _ _ _ _ c.put_asked-at_last.ensures room_costs in
    room-last

pub returns : goal.returns
unfolding page
returns c =
    let from-costs = laid_then _ _ _ _ _ _ c.put_asked-at_last.ensures _ _ c.put_last.ensures in
    let from_bytes = laid_then _ _ _ _ _ _ c.put_asked-at_costs.ensures _ _ from-costs in
    let from-counts = laid_then _ _ _ _ _ _ c.put_counts-at_bytes.ensures _ _ from_bytes in
    laid_then _ _ _ _ _ _ c.put_item-at_events.ensures _ _ (laid_then _ _ _ _ _ _ c.put_events-at_counts.ensures _ _ from-counts)
