-- `shelving::evict::drop_behind` meets its contract. Assumes nothing.
use Rattle.tables.specs.Lent.{tables_of, Same}
use Rattle.shelving.proofs.Dropping.{Falling}
use Rattle.shelving.proofs.evict.drop_behind.Given as goal

abbrev pub invariant-loop-last : goal.invariant-loop-last
invariant-loop-last l =
    Same l.initial.r l.r ×
    Falling l.settings l.n l.left (tables_of l.initial.r l.initial.key l.initial.stamp l.initial.queue) (tables_of l.r l.key l.stamp l.queue) l.initial.free l.free l.last
