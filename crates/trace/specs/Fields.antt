-- A field of a trace: its form, then its range (document 01, "Numbers on the red card"). Assumes nothing.
use Rattle.std.specs.Prelude.{ℕ, ◌-◌, List, Bool, false, length, ltb}
use Rattle.amounts.specs.Limits.{pick, is_size, is_cost}
use Rattle.amounts.specs.Requests.{Request}
use Rattle.card.specs.declared.Refusal.{Refusal}
use Rattle.card.specs.declared.Refusal.TheVariants.{Form}
use Rattle.trace.specs.Number.{Num, num, bad, decode}

-- a field: its value with the bytes after it, or the refusal
pub data Field : Type 0 where
  val : ℕ → List ℕ → Field
  off : Refusal → Field

-- where the bytes s start: n is the length of all the bytes, of which s are the last
abbrev pub offset : ℕ → List ℕ → ℕ
offset n s = n - length s

-- document 01, "Numbers on the red card": 3 for the form, with the offset, before what the range gives
abbrev pub judged : ℕ → (ℕ → Bool) → (ℕ → Refusal) → List ℕ → Num → Field
judged n inside out s bad = off (Form (offset n s))
judged n inside out s (num v rest) = pick (inside v) (val v rest) (off (out (offset n s)))

-- the field at the front of the bytes s
abbrev pub field : ℕ → (ℕ → Bool) → (ℕ → Refusal) → List ℕ → Field
field n inside out s = judged n inside out s (decode s)

-- document 01, "Trace bytes": reading stops at the first bad group; else it goes on with the value and the bytes after it
abbrev pub on_val : {A : Type 0} → (Refusal → A) → Field → (ℕ → List ℕ → A) → A
on_val stop (val v rest) next = next v rest
on_val stop (off r) next = stop r

-- document 01, "Numbers": file numbers run from 0 to catalogue - 1
abbrev pub is_file : ℕ → ℕ → Bool
is_file catalogue n = ltb n catalogue

-- document 01, "Numbers on the red card", 4: file, size and cost in range
unfoldable pub is_request : ℕ → Request → Bool
is_request catalogue q = pick (is_file catalogue q.file) (pick (is_size q.size) (is_cost q.cost) false) false
