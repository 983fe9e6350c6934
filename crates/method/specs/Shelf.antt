-- The shelf: what a run keeps, its sums and its lowest file (document 01, "The run"). Assumes nothing.
use Rattle.std.specs.Prelude.{◌≡◌, false, List, [], ◌∷◌, ℕ, suc, ◌+◌, ◌≤◌, get_or}
use Rattle.amounts.specs.Limits.{pick}
use Rattle.amounts.specs.Worth.{product_of}
use Rattle.amounts.specs.Order.{lower_of}

-- document 01, "The run": what is kept of a file (its number is its slot's; in the plain method the key is the credit)
pub record Kept : Type 0 where
  pub size : ℕ
  pub cost : ℕ
  pub freq : ℕ
  pub key : ℕ
  pub stamp : ℕ

pub data Slot : Type 0 where
  none : Slot
  kept : Kept → Slot

-- a slot for each file number of the catalogue, so that no file is kept twice
abbrev pub Shelf : Type 0
Shelf = List Slot

abbrev pub weigh : (Kept → ℕ) → Slot → ℕ
weigh f none = 0
weigh f (kept r) = f r

-- the sum of f over the kept files
unfoldable pub sum : (Kept → ℕ) → Shelf → ℕ
sum f [] = 0
sum f (x ∷ s) = weigh f x + sum f s

-- document 01, "Fits": bytes kept
abbrev pub bytes : Shelf → ℕ
bytes s = sum (λ r. r.size) s

-- document 01, "Fits": files kept
abbrev pub files : Shelf → ℕ
files s = sum (λ r. 1) s

-- document 02, ticket 6: the product of a kept file
abbrev pub product : Kept → ℕ
product r = product_of r.freq r.size r.cost

-- document 01, "Lowest": r is not lower than q
abbrev pub NotLower : Kept → Kept → Type 0
NotLower r q = lower_of r.key r.stamp q.key q.stamp ≡ false

pub data Found : Type 0 where
  nothing : Found
  at : ℕ → Kept → Found

-- the lower of the first slot and of what is found behind it
abbrev pub lower : Slot → Found → Found
lower none nothing = nothing
lower none (at i q) = at (suc i) q
lower (kept r) nothing = at 0 r
lower (kept r) (at i q) = pick (lower_of q.key q.stamp r.key r.stamp) (at (suc i) q) (at 0 r)

-- document 01, "Lowest": the smallest key; among equal keys, the smallest stamp
unfoldable pub lowest : Shelf → Found
lowest [] = nothing
lowest (x ∷ s) = lower x (lowest s)

-- P holds of each kept file
abbrev pub Each : (Kept → Type 0) → Shelf → Type 0
Each P s = (i : ℕ) (r : Kept) → get_or s i none ≡ kept r → P r

-- document 000, Figure 5, (6): r, the file i, is some file of least key
pub record Least (s : Shelf) (i : ℕ) (r : Kept) : Type 0 where
  pub here : get_or s i none ≡ kept r
  pub least : Each (λ q. r.key ≤ q.key) s
