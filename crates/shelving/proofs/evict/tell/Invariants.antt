-- `shelving::evict::tell` meets its contract. Assumes nothing.
use Rattle.shelving.proofs.Tellings.{Telling}
use Rattle.shelving.proofs.evict.tell.Given as goal

abbrev pub invariant-loop-last : goal.invariant-loop-last
invariant-loop-last l = Telling l.n l.left l.file l.queue l.initial.events l.events l.at l.last l.e
