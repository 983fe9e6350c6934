-- `lifting::lift_keys` meets its contract: after so many turns one lift is taken for each of the entries passed. Assumes nothing.
use Rattle.lifting.specs.Lifting.{Lifted}
use Rattle.lifting.proofs.lift_keys.Given as goal

abbrev pub invariant-loop-place : goal.invariant-loop-place
invariant-loop-place l = Lifted l.queue l.initial.keys l.keys l.place-index
