-- `admitting::admission::enter` meets its contract. Assumes nothing.
use Rattle.shelving.proofs.Dropping.{live_droppable}
use Rattle.admitting.proofs.Entering.{keepable, entered}
use Rattle.admitting.proofs.admission.enter.Goals as goal

pub drop_behind-requires : goal.drop_behind-requires
drop_behind-requires c = let h = c.requires in live_droppable h.live _ h.stack.long

pub keep-requires : goal.keep-requires
keep-requires c =
    let h = c.requires in
    keepable h c.drop_behind.ensures.dropped c.count.ensures c.from-p.ensures c.newcomer-k.ensures

pub returns-clause-met : goal.returns-clause-met
returns-clause-met c =
    let h = c.requires in
    entered h c.drop_behind.ensures.dropped c.count.ensures c.from-p.ensures c.newcomer-k.ensures _
    c.keep.ensures.kept c.tell.ensures c.admitted.ensures
