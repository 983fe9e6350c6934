-- `admitting::admission::admit` meets its contract. Assumes nothing.
use Prim.Native.Nat.{ℕ, ◌+◌}
use mathlib.Core.Path.{◌≡◌, ap, ◌∙◌}
use native.Mathlib.Omega.{arith}
use Rattle.amounts.specs.Worth.{product_of}
use Rattle.tables.specs.Tally.{policy_in}
use Rattle.tables.specs.declared.tally.Tally.{Tally}
use Rattle.newcomer.specs.Newcomer.{limit_of}
use Rattle.admitting.proofs.Admitting.{key_fits, roomless, apiece, lows, enterable, admitted}
use Rattle.admitting.proofs.admission.admit.Goals as goal

-- the limit is the method's
limit_is : (a : Tally) (size cost : ℕ) {limit key worth : ℕ} → limit ≡ limit_of (policy_in a.settings) key → key ≡ a.inflation.0 + worth → worth ≡ product_of 1 size cost
    → limit ≡ limit_of (policy_in a.settings) (a.inflation.0 + product_of 1 size cost)
limit_is a size cost is keyed valued = is ∙ ap (limit_of (policy_in a.settings)) (keyed ∙ ap (λ (v : ℕ). a.inflation.0 + v) valued)

pub add-k-requires : goal.add-k-requires
add-k-requires c = omega (arith, c.product.ensures, key_fits c.requires)

pub make_room-requires : goal.make_room-requires
make_room-requires c = roomless c.requires

pub put_back-requires : goal.put_back-requires
put_back-requires c =
    let most = limit_is c.args.a c.args.q.size.0 c.args.q.cost.0 c.limit-most.ensures c.add-k.ensures c.product.ensures in
    apiece c.requires most c.in-Err.ensures

pub returns-in-Err-clause-met : goal.returns-in-Err-clause-met
returns-in-Err-clause-met c =
    let most = limit_is c.args.a c.args.q.size.0 c.args.q.cost.0 c.limit-most.ensures c.add-k.ensures c.product.ensures in
    lows c.requires most c.in-Err.ensures c.put_back.ensures c.counted.ensures

pub enter-requires : goal.enter-requires
enter-requires c =
    let most = limit_is c.args.a c.args.q.size.0 c.args.q.cost.0 c.limit-most.ensures c.add-k.ensures c.product.ensures in
    enterable c.requires most c.in-Ok.ensures

pub returns-in-Ok-clause-met : goal.returns-in-Ok-clause-met
returns-in-Ok-clause-met c =
    let most = limit_is c.args.a c.args.q.size.0 c.args.q.cost.0 c.limit-most.ensures c.add-k.ensures c.product.ensures in
    admitted c.requires most c.in-Ok.ensures c.enter.ensures.met
