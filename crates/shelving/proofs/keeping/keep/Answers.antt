-- `shelving::keeping::keep` meets its contract. Assumes nothing.
use mathlib.Core.Path.{sym, subst}
use Rattle.queue.specs.Queue.{Insertable}
use Rattle.queue.proofs.Callers.{insertable_record}
use Rattle.tables.specs.Tables.{Tables}
use Rattle.shelving.proofs.keeping.keep.Goals as goal

pub insert-requires : goal.insert-requires
insert-requires c =
    let x = c.args in
    let e = sym c.put.ensures.kept in
    subst (λ (t : Tables). Insertable x.queue.now x.entry.now t.key t.stamp x.n x.p) e
    (insertable_record _ _ _ _ _ _ _ _ c.requires.insertable)
