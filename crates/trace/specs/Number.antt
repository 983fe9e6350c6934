-- House numbers (document 01, "Trace bytes"). Assumes nothing.
use Rattle.std.specs.Prelude.{ℕ, zero, suc, ◌+◌, ◌*◌, ◌/◌, ◌%◌, ◌<◌, List, [], ◌∷◌, Bool, true, false, get_or, ltb, eqb}
use Rattle.amounts.specs.Limits.{pick}

-- document 01, "Trace bytes": groups of seven bits, lowest group first, top bit set on every group but the last; at most k
abbrev pub spelt : ℕ → ℕ → List ℕ
spelt zero n = []
spelt (suc k) n = pick (ltb n 128) (n ∷ []) ((128 + n % 128) ∷ spelt k (n / 128))

-- document 01, "Trace bytes": at most six groups
abbrev pub groups_most : ℕ
groups_most = 6

-- document 01, "Trace bytes": the bytes of a number
abbrev pub encode : ℕ → List ℕ
encode n = spelt groups_most n

-- the largest number that six groups hold
abbrev pub number_most : ℕ
number_most = 4398046511103

-- what stands at the front of some bytes: a number with the bytes after it, or none
pub data Num : Type 0 where
  num : ℕ → List ℕ → Num
  bad : Num

-- a group that is not the last, before the number that the rest of the groups spell
abbrev pub before : ℕ → Num → Num
before b (num v rest) = num (b % 128 + 128 * v) rest
before b bad = bad

-- document 01, "Trace bytes": the last group is not 0 unless it is the only one
abbrev pub closing : Bool → ℕ → List ℕ → Num
closing true b rest = num (b % 128) rest
closing false b rest = pick (eqb b 0) bad (num (b % 128) rest)

-- at most k groups; the flag says that none came before
abbrev pub groups : ℕ → Bool → List ℕ → Num
groups zero first s = bad
groups (suc k) first [] = bad
groups (suc k) first (b ∷ s) = pick (ltb b 128) (closing first b s) (before b (groups k false s))

-- document 01, "Trace bytes": the number at the front of some bytes
abbrev pub decode : List ℕ → Num
decode s = groups groups_most true s

-- every element is a byte
unfoldable pub AreBytes : List ℕ → Type 0
AreBytes s = (i : ℕ) → get_or s i 0 < 256
