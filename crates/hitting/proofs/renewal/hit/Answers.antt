-- `hitting::renewal::hit` meets its contract. Assumes nothing.
use native.Mathlib.Omega.{arith}
use Rattle.amounts.specs.Limits.{size_most}
use Rattle.amounts.proofs.Tests.{in_one_to}
use Rattle.hitting.proofs.renewal.hit.Goals as goal

-- the size is that of the file at the place
pub size-z-requires : goal.size-z-requires
size-z-requires c =
    let v = c.requires.valued in
    in_one_to size_most _ (omega (arith, c.from.ensures, v.size_least)) (omega (arith, c.from.ensures, v.size_at_most))
