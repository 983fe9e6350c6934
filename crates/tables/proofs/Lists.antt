-- Laws of a table that is filled from its front. Assumes nothing.
use mathlib.Core.Path.{◌≡◌, ◌∙◌}
use mathlib.Core.List.{List, ◌++◌}
use Prim.Native.Nat.{ℕ, ◌≤◌, ◌<◌}
use native.Mathlib.Omega.{arith}
use lib.ListN.{length, get_or, take, drop, replicate, length-append, length-replicate, length-drop, get_or-append, get_or-replicate}
use lib.Seq.{take_at, drop_at}
use Rattle.std.proofs.lemmas.List.{length-take-le}
use Rattle.tables.specs.Tables.{filled}

pub length_filled : (n v : ℕ) (d : List ℕ) → n ≤ length d → length (filled n v d) ≡ length d
unfolding filled
length_filled n v d h = simp (length-append, length-replicate, length-drop) (omega arith)

-- its first n entries are the value, and the others are as they were
pub take_filled : (n v : ℕ) (l : List ℕ) → take n (filled n v l) ≡ replicate n v
unfolding filled
take_filled n v l = take_at (replicate n v) (drop n l) n (length-replicate n v)

pub drop_filled : (n v : ℕ) (l : List ℕ) → drop n (filled n v l) ≡ drop n l
unfolding filled
drop_filled n v l = drop_at (replicate n v) (drop n l) n (length-replicate n v)

pub at_filled : (n v : ℕ) (l : List ℕ) (i : ℕ) → i < n → get_or (filled n v l) i 0 ≡ v
unfolding filled
at_filled n v l i h = get_or-append (replicate n v) (drop n l) 0 i (omega (arith, length-replicate n v)) ∙ get_or-replicate n i v 0 h

-- what `fill` leaves of a slice of the first n entries, with the entries behind them
pub filled_by : (n v : ℕ) (l part : List ℕ) → n ≤ length l → part ≡ replicate (length (take n l)) v → part ++ drop n l ≡ filled n v l
unfolding filled
filled_by n v l part h e = rw (e, length-take-le)
