-- `dropping::stale::drop_stale` meets its contract. Assumes nothing.
use Prim.Native.Nat.{ℕ}
use mathlib.Core.Path.{◌≡◌, ap, ◌∙◌}
use native.Mathlib.Omega.{arith}
use lib.ListN.{get_or}
use Rattle.method.specs.Events.{event}
use Rattle.dropping.proofs.Cleanings.{still_out, still_same, space, known, drops}
use Rattle.dropping.proofs.stale.drop_stale.Goals as goal

pub returns-then-home-clause-cleaned : goal.returns-then-home-clause-cleaned
returns-then-home-clause-cleaned c = still_out c.requires c.args.q.size.0 c.if-home.true

pub returns-then-from-q-clause-cleaned : goal.returns-then-from-q-clause-cleaned
returns-then-from-q-clause-cleaned c =
    let same : get_or c.args.r.now.size.now c.from-p.result 0 ≡ c.args.q.size.0 = omega (arith, c.from.ensures, c.if-from-q.true) in
    still_same c.requires c.if-home.false c.from-p.ensures same

pub event-requires : goal.event-requires
event-requires c = (omega arith, known c.requires c.if-home.false)

-- there is room in the event list for the event
pub bounds-events-at : goal.bounds-events-at
bounds-events-at c = omega (arith, space c.requires c.if-home.false)

pub returns-clause-cleaned : goal.returns-clause-cleaned
returns-clause-cleaned c = drops c.requires c.if-home.false c.from-p.ensures (λ e. omega (arith, e, c.from.ensures, c.if-from-q.false)) (c.event.ensures ∙ ap (λ (k : ℕ). event k c.args.q.file) c.from-2.ensures) c.drop_copy-tally.ensures.gone
