-- The numbers of a hit: the next frequency. Assumes nothing.
use mathlib.Core.Path.{◌≡◌, refl}
use mathlib.Core.Bool.{Bool, true, false}
use Prim.Native.Nat.{ℕ, suc, ◌≤◌}
use native.Mathlib.Omega.{arith}
use lib.Dec.{ltb}
use borrow.Author.Tests.{ltb-true}
use Rattle.amounts.specs.Limits.{pick, frequency_most}
use Rattle.method.specs.Method.{Policy, gds, gdsf, again}

-- document 02, ticket 5: a hit leaves the frequency within its limit
pub again_most : (p : Policy) (f : ℕ) → f ≤ frequency_most → again p f ≤ frequency_most
again_most gds f h = omega arith
again_most gdsf f h = go (ltb f frequency_most) refl
  where
    go : (b : Bool) → ltb f frequency_most ≡ b → pick b (suc f) f ≤ frequency_most
    go true e = omega (arith, ltb-true f frequency_most e)
    go false e = h
