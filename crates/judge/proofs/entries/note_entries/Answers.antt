-- `judge::entries::note_entries` meets its contract. Assumes nothing.
use mathlib.Core.Path.{◌≡◌}
use Prim.Native.Nat.{◌<◌}
use native.Mathlib.Omega.{arith}
use lib.ListN.{get_or, take, length-take}
use lib.Seq.{get_or-take}
use Rattle.tables.specs.Sound.{Occupied}
use Rattle.tables.proofs.Answers.{passed}
use Rattle.tables.specs.Lent.{shown}
use Rattle.judge.proofs.Entering.{noting_twice, noting_more}
use Rattle.judge.proofs.entries.note_entries.Goals as goal

-- the entry's place is occupied, so that the index has room for it
pub returns-then-entry-p : goal.returns-then-entry-p
returns-then-entry-p c =
    let inside : c.loop-i.i < c.args.n = omega (arith, length-take c.args.n c.args.t.queue.now, c.loop-i-test.true) in
    let here : get_or (take c.args.n c.args.t.queue.now) c.loop-i.i 0 ≡ get_or c.args.t.queue.now c.loop-i.i 0 = get_or-take c.args.n c.args.t.queue.now c.loop-i.i 0 inside in
    let used : Occupied c.args.settings (shown c.args.t) (get_or c.args.t.queue.now c.loop-i.i 0) = rw here at (passed c.occupied.ensures c.if-not-occupied.false) in
    noting_twice _ _ _ _ c.requires.indexable _ _ c.loop-i.invariant inside used (rw here at c.if-entry-p.true)

pub loop-i-preserved : goal.loop-i-preserved
loop-i-preserved c =
    let inside : c.loop-i.i < c.args.n = omega (arith, length-take c.args.n c.args.t.queue.now, c.loop-i-test.true) in
    let here : get_or (take c.args.n c.args.t.queue.now) c.loop-i.i 0 ≡ get_or c.args.t.queue.now c.loop-i.i 0 = get_or-take c.args.n c.args.t.queue.now c.loop-i.i 0 inside in
    let used : Occupied c.args.settings (shown c.args.t) (get_or c.args.t.queue.now c.loop-i.i 0) = rw here at (passed c.occupied.ensures c.if-not-occupied.false) in
    rw here (noting_more _ _ _ _ c.requires.indexable _ _ c.loop-i.invariant inside used (rw here at c.if-entry-p.false))
