-- `shelving::evict::tell` meets its contract. Assumes nothing.
use Prim.Native.Nat.{ℕ, ◌-◌}
use mathlib.Core.Path.{◌≡◌, ap, ◌∙◌}
use lib.ListN.{get_or}
use Rattle.method.specs.Events.{event}
use Rattle.shelving.proofs.Tellings.{telling_more, telling_end}
use Rattle.shelving.proofs.evict.tell.Goals as goal

-- the file is the last entry's
pub loop-last-preserved : goal.loop-last-preserved
loop-last-preserved c =
    let is_last : let x = c.args in c.from-in-loop-last.result ≡ get_or x.file.now (get_or x.queue.now (c.loop-last.last - 1) 0) 0 = c.from-in-loop-last.ensures ∙ ap (λ (k : ℕ). get_or c.args.file.now k 0) c.from-p.ensures in
    telling_more _ _ _ _ _ _ _ _ _ _ c.loop-last.invariant c.loop-last-test.true (c.event.ensures ∙ (λ i. event (c.from.ensures i) (is_last i)))

pub returns : goal.returns
returns c = telling_end _ _ _ _ _ _ _ _ _ c.loop-last.invariant c.loop-last-test.false
