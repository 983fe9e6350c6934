-- What the functions below the writing entry points promise: the steps of their loops. Assumes nothing.
use Rattle.std.specs.Prelude.{ℕ, ◌+◌, ◌≤◌, ◌≡◌, List, ◌++◌, length, slice_index, Result, Ok, Err}
use Rattle.std.proofs.lemmas.List.Edits.{sets}
use Rattle.amounts.specs.Requests.{Request}
use Rattle.card.specs.declared.Refusal.{Refusal}
use Rattle.trace.specs.Writing.{part_bytes, Put, bytes, stop, in_room, listed}

-- the sizes and costs are as many as the files, or more
pub record Listed (f s d : List ℕ) : Type 0 where
  pub sizes : length f ≤ length s
  pub costs : length f ≤ length d

-- the request of an index
abbrev pub row_at : List ℕ → List ℕ → List ℕ → ℕ → Request
row_at f s d i = record { file = slice_index f i; size = slice_index s i; cost = slice_index d i }

-- how many bytes there are to write, or the refusal
abbrev pub sized : Put → Result ℕ Refusal
sized (bytes bs) = Ok (length bs)
sized (stop r) = Err r

-- r tells whether the bytes of l have room behind `head` others, whatever those are
pub record Measured (head : ℕ) (l : List Request) (room : ℕ) (r : Result ℕ Refusal) : Type 0 where
  pub told : (front : List ℕ) → head ≡ length front → r ≡ sized (in_room room (front ++ part_bytes l))

-- r tells whether the requests of the lists can be written behind `head` bytes, whatever those are
pub record Judged (catalogue head room : ℕ) (f s d : List ℕ) (r : Result ℕ Refusal) : Type 0 where
  pub told : (front : List ℕ) → head ≡ length front → r ≡ sized (listed catalogue front room f s d)

-- there is room for some bytes from a place on
pub record Roomy (bs : List ℕ) (at : ℕ) (out : List ℕ) : Type 0 where
  pub room : at + length bs ≤ length out

-- some bytes are laid into a list from a place on, and r is the place after them
pub record Laid (bs : List ℕ) (at : ℕ) (out out' : List ℕ) (r : ℕ) : Type 0 where
  pub placed : out' ≡ sets out at bs
  pub ends : r ≡ at + length bs
