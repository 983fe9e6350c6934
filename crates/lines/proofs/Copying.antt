-- Bytes copied over a part of a list are laid into it. Assumes nothing.
use Prim.Native.Nat.{ℕ, ◌+◌}
use mathlib.Core.Path.{◌≡◌, refl, ap, sym, ◌∙◌}
use mathlib.Core.List.{List, ◌++◌}
use borrow.Rule.Slice.PartMut.{put_mid}
use lib.ListN.{length, take, drop}
use Rattle.std.proofs.Common.{append_assoc}
use lib.Seq.{sets-eq, drop-drop}
use Rattle.trace.specs.Stores.{Roomy, Laid}

pub copied : (bytes : List ℕ) (at : ℕ) (out : List ℕ) (n : ℕ) (part : List ℕ) → Roomy bytes at out → part ≡ bytes → n ≡ length bytes → Laid bytes at out (put_mid at n out part) (at + length bytes)
copied bytes at out n part r e l =
    record { placed = (λ i. take at out ++ (e i ++ (drop-drop n at out ∙ ap (λ (k : ℕ). drop (at + k) out) l) i)) ∙ sym (append_assoc (take at out) bytes _) ∙ sym (sets-eq bytes out at r.room); ends = refl }
