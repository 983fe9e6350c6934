-- The loop that lays the lines of events. Assumes nothing.
use Prim.Native.Nat.{ℕ, ◌+◌, ◌<◌}
use mathlib.Core.Path.{subst}
use mathlib.Core.List.{List}
use lib.ListN.{length, drop, get_or}
use Rattle.trace.specs.Stores.{Laid}
use Rattle.trace.proofs.Laying.{Left, left_more}
use Rattle.trace.proofs.Groups.{at_drop}
use Rattle.lines.specs.Lines.{event_line, event_lines}

-- one line is laid, and those of the later events are left
pub list_more : (told : List ℕ) (from : ℕ) (out₀ : List ℕ) (i at : ℕ) (out : List ℕ) → Left (event_lines told) from out₀ (event_lines (drop i told)) at out → i < length told
    → (out' : List ℕ) (at' : ℕ) → Laid (event_line (get_or told i 0)) at out out' at' → Left (event_lines told) from out₀ (event_lines (drop (i + 1) told)) at' out'
list_more told from out₀ i at out c h out' at' p =
    left_more _ _ _ _ _ _ (subst (λ (es : List ℕ). Left (event_lines told) from out₀ (event_lines es) at out) (at_drop told i h) c) p
