-- `amounts::cost::Cost::in_force` meets its contract. Assumes nothing.
use mathlib.Core.Path.{sym}
use Rattle.amounts.specs.Worth.{packets}
use Rattle.amounts.proofs.Values.{in_force_zero, in_force_some}
use Rattle.amounts.proofs.cost.Cost.in_force.Goals as goal

pub returns-then-self-eq0 : goal.returns-then-self-eq0
unfolding packets
returns-then-self-eq0 c = sym (in_force_zero _ _ c.if-self-eq0.true)

pub returns : goal.returns
returns c = sym (in_force_some _ _ c.if-self-eq0.false)
