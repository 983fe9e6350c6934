-- `shelving::evict::drop_behind` meets its contract. Assumes nothing.
use Prim.Native.Nat.{ℕ, ◌+◌, ◌-◌}
use mathlib.Core.Path.{◌≡◌, ap, ◌∙◌}
use native.Mathlib.Omega.{arith}
use mathlib.Core.List.{[]}
use lib.ListN.{get_or, set}
use Rattle.tables.specs.Lent.{tables_of}
use Rattle.tables.proofs.Lending.{same_more}
use Rattle.shelving.specs.Evicting.{with_queue, clear_at}
use Rattle.shelving.proofs.Dropping.{falling_more, falling_end}
use Rattle.shelving.proofs.evict.drop_behind.Goals as goal

-- the file is the last entry's
pub loop-last-preserved : goal.loop-last-preserved
loop-last-preserved c =
    let is_file : let l = c.loop-last in c.from-f.result ≡ get_or l.r.file.now (get_or l.queue (l.last - 1) 0) 0 = c.from-f.ensures ∙ ap (λ (k : ℕ). get_or c.loop-last.r.file.now k 0) c.from-p.ensures in
    let l = c.loop-last in
    let q = set l.queue (l.last - 1) 0 in
    let t = tables_of l.r l.key l.stamp [] in
    let e = ap (with_queue q) c.clear.ensures.cleared ∙ (λ j. with_queue q (clear_at (c.from-p.ensures j) (is_file j) t)) in
    let height : (l.last - 1) + 1 ≡ l.last = omega (arith, c.loop-last-test.true) in
    (same_more l.invariant.0 c.clear.ensures.same, rw (c.count.ensures, height) (falling_more _ _ _ _ _ _ _ _ _ l.invariant.1 c.loop-last-test.true e))

pub returns-clause-dropped : goal.returns-clause-dropped
returns-clause-dropped c = falling_end _ _ _ _ _ _ _ _ c.loop-last.invariant.1 c.loop-last-test.false
