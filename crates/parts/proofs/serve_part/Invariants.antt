-- `parts::serve_part` meets its contract. Assumes nothing.
use Rattle.tables.specs.Lent.{tables_of, Same}
use Rattle.parts.proofs.Walking.{Walk}
use Rattle.parts.proofs.serve_part.Given as goal

abbrev pub invariant-loop : goal.invariant-loop
invariant-loop l =
    Same l.initial.r l.r ×
    Walk l.initial.b l.part l.count (tables_of l.initial.r l.initial.key l.initial.stamp l.initial.queue) l.initial.events (tables_of l.r l.key l.stamp l.queue) l.entry l.free l.events l.b l.at l.told l.counter
