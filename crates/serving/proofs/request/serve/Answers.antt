-- `serving::request::serve` meets its contract. Assumes nothing.
use Prim.Native.Nat.{ℕ}
use mathlib.Core.Path.{ap, ◌∙◌}
use native.Mathlib.Omega.{arith}
use Rattle.method.specs.Events.{event}
use Rattle.lifting.proofs.Raising.{raisable}
use Rattle.serving.proofs.Cleanings.{meetable}
use Rattle.serving.proofs.Servings.{cleanable, own_room, near}
use Rattle.serving.proofs.Seasons.{ready, servable, stepped}
use Rattle.serving.proofs.request.serve.Goals as goal

pub lift-lifted-requires : goal.lift-lifted-requires
lift-lifted-requires c = raisable _ _ _ _ c.requires.running

pub drop_stale-cleaned-requires : goal.drop_stale-cleaned-requires
drop_stale-cleaned-requires c = cleanable (servable c.requires c.lift-lifted.ensures)

pub meet-met-requires : goal.meet-met-requires
meet-met-requires c = meetable _ c.drop_stale-cleaned.ensures.cleaned c.in_force.ensures (servable c.requires c.lift-lifted.ensures) (omega arith)

-- there is room in the event list for the request's own entry
pub offset_bounds-events-due : goal.offset_bounds-events-due
offset_bounds-events-due c = omega (arith, own_room (servable c.requires c.lift-lifted.ensures) c.drop_stale-cleaned.ensures.cleaned c.in_force.ensures c.meet-met.ensures.met)

pub bounds-events-due : goal.bounds-events-due
bounds-events-due c = omega (arith, own_room (servable c.requires c.lift-lifted.ensures) c.drop_stale-cleaned.ensures.cleaned c.in_force.ensures c.meet-met.ensures.met)

pub overflow_add-next : goal.overflow_add-next
overflow_add-next c = omega (arith, own_room (servable c.requires c.lift-lifted.ensures) c.drop_stale-cleaned.ensures.cleaned c.in_force.ensures c.meet-met.ensures.met)

pub returns-clause-stepped : goal.returns-clause-stepped
returns-clause-stepped c =
    let lifted = c.lift-lifted.ensures in
    stepped c.requires lifted
    (near (servable c.requires lifted) c.drop_stale-cleaned.ensures.cleaned c.in_force.ensures c.meet-met.ensures.met (ready c.requires lifted)
    (c.event.ensures ∙ ap (λ (k : ℕ). event k c.args.q.file) (c.from.ensures ∙ c.kind.ensures)))
