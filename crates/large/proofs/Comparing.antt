-- Large numbers compared word by word are compared as the numbers that they are. Assumes nothing.
use mathlib.Core.Path.{◌≡◌, refl, sym}
use mathlib.Core.Bool.{false}
use Prim.Native.Nat.{ℕ, ◌/◌, ◌%◌, ◌<◌}
use native.Mathlib.Omega.{arith}
use lib.Dec.{leb}
use borrow.Author.Tests.{le-leb, lt-leb}
use Rattle.std.specs.Cmp.{ranks}
use Rattle.std.specs.Ordering.{MatchOrdering, nat_cmp, is_le, is_some_and, partial_ordering_then, partial_le}
use Rattle.std.proofs.Common.{Some, Ordering, Less, Equal, Greater}
use Rattle.amounts.specs.Limits.{lift}
use Rattle.large.specs.contracts.LargePartialOrd.TheImpl.{partial_cmp-value}

-- one lift is not at most 1, though nothing is left beside it
lifts_first : partial_le partial_cmp-value.it lift 1 ≡ false
lifts_first = refl

-- document 02, ticket 5: `<=` of two large numbers, whose lifts are compared before what is left
pub le_value : (a b : ℕ) → partial_le partial_cmp-value.it a b ≡ leb a b
le_value a b = go (nat_cmp (a / lift) (b / lift)) (nat_cmp (a % lift) (b % lift)) (ranks (a / lift) (b / lift)) (ranks (a % lift) (b % lift))
  where
    go : (high low : Ordering) → MatchOrdering high (a / lift < b / lift) (a / lift ≡ b / lift) (b / lift < a / lift)
        → MatchOrdering low (a % lift < b % lift) (a % lift ≡ b % lift) (b % lift < a % lift)
        → is_some_and is_le (partial_ordering_then (Some high) (Some low)) ≡ leb a b
    go Less low h k = sym (le-leb a b (omega arith))
    go Equal Less h k = sym (le-leb a b (omega arith))
    go Equal Equal h k = sym (le-leb a b (omega arith))
    go Equal Greater h k = sym (lt-leb a b (omega arith))
    go Greater low h k = sym (lt-leb a b (omega arith))
