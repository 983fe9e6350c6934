-- `parts::serve_part` meets its contract. Assumes nothing.
use Prim.Native.Nat.{ℕ, ◌<◌}
use mathlib.Core.Path.{◌≡◌, refl, sym, ◌∙◌, subst}
use mathlib.Core.Bool.{true}
use native.Mathlib.Omega.{arith}
use Rattle.amounts.specs.Limits.{is_size}
use Rattle.tables.proofs.Lending.{same_more}
use Rattle.parts.proofs.Walking.{walk_there, walk_size, walk_servable, walk_more, walk_end}
use Rattle.parts.proofs.serve_part.Goals as goal

pub request_at-taken-requires : goal.request_at-taken-requires
request_at-taken-requires c =
    let inside : c.loop.counter < c.args.count = omega (arith, c.loop-test.true) in
    walk_there _ _ _ _ _ _ _ _ _ _ _ _ _ c.loop.invariant.1 inside

pub size-requires : goal.size-requires
size-requires c =
    let inside : c.loop.counter < c.args.count = omega (arith, c.loop-test.true) in
    subst (λ (n : ℕ). is_size n ≡ true) (sym c.from-in-loop.ensures) (walk_size _ _ _ _ _ _ _ _ _ _ _ _ _ c.loop.invariant.1 inside _ c.request_at-taken.ensures)

pub serve-step-requires : goal.serve-step-requires
serve-step-requires c =
    let inside : c.loop.counter < c.args.count = omega (arith, c.loop-test.true) in
    let size_is : c.size.result.0 ≡ c.request_at-taken.result.request.size = c.size.ensures ∙ c.from-in-loop.ensures in
    let cost_is : c.asked.result.0 ≡ c.request_at-taken.result.request.cost = c.asked.ensures ∙ c.from-in-loop-2.ensures in
    walk_servable _ _ _ _ _ _ _ _ _ _ _ _ _ c.loop.invariant.1 inside _ c.request_at-taken.ensures _ _ _ c.from.ensures size_is cost_is

pub loop-preserved : goal.loop-preserved
loop-preserved c =
    let inside : c.loop.counter < c.args.count = omega (arith, c.loop-test.true) in
    let size_is : c.size.result.0 ≡ c.request_at-taken.result.request.size = c.size.ensures ∙ c.from-in-loop.ensures in
    let cost_is : c.asked.result.0 ≡ c.request_at-taken.result.request.cost = c.asked.ensures ∙ c.from-in-loop-2.ensures in (
      same_more c.loop.invariant.0 c.serve-step.ensures.same,
      walk_more _ _ _ _ _ _ _ _ _ _ _ _ _ c.loop.invariant.1 inside _ c.request_at-taken.ensures _ _ _ c.from.ensures size_is cost_is _ _ _ _ _
          c.serve-step.ensures.stepped,
    )

pub returns-clause-served : goal.returns-clause-served
returns-clause-served c = walk_end _ _ _ _ _ _ _ _ _ _ _ _ _ c.loop.invariant.1 (omega (arith, c.loop-test.false)) _ refl refl
