-- `layout::run::run_into` meets its contract: what is carried on from a fresh start over the call's own tables is the method's run. Assumes nothing.
use mathlib.Core.Path.{refl}
use native.Mathlib.Omega.{arith}
use Rattle.layout.proofs.Running.{own_long, not_refused, ran_own}
use Rattle.layout.proofs.run.run_into.Goals as goal

pub returns-in_err-begun : goal.returns-in_err-begun
returns-in_err-begun c =
    let own = c.requires in
    absurd (not_refused _ _ _ own _ (own_long _ _ _ own 512 4096 (omega arith) (omega arith)) _ _ c.in_err-begun.ensures _ refl)

pub returns : goal.returns
returns c =
    let own = c.requires in
    ran_own _ _ _ own _ (own_long _ _ _ own 512 4096 (omega arith) (omega arith)) _ _ c.in_ok-begun.ensures _ refl _ _ _ c.carry_on.ensures
