-- `amounts::key::product` meets its contract. Assumes nothing.
use mathlib.Core.Path.{◌≡◌, refl}
use Prim.Native.Nat.{ℕ, ◌*◌, ◌/◌}
use Rattle.amounts.specs.Worth.{scale, product_of}
use Rattle.amounts.proofs.key.product.Goals as goal

-- the definition by its text, so that where another is returned both stand in the error
due : (frequency size cost : ℕ) → frequency * (cost * scale) / size ≡ product_of frequency size cost
unfolding product_of
due frequency size cost = refl

pub returns : goal.returns
returns c = due _ _ _
