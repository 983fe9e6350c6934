-- `ratios::division::ratio` meets its contract. Assumes nothing.
use mathlib.Core.Path.{refl}
use native.Mathlib.Omega.{arith}
use Rattle.ratios.proofs.Dividing.{counted, divided}
use Rattle.ratios.proofs.division.ratio.Goals as goal

pub returns : goal.returns
returns c =
    let p = c.requires in
    record { part_exact = counted _ (omega arith); whole_exact = counted _ p.exact; divided = refl; rounded = divided _ _ p }
