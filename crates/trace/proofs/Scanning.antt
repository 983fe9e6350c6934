-- What the checking pass has counted, and what a request more makes of it. Assumes nothing.
use Prim.Native.Nat.{ℕ, ◌+◌, ◌≤◌}
use mathlib.Core.Path.{◌≡◌, refl, ap, sym, ◌∙◌}
use mathlib.Core.List.{List}
use native.Mathlib.Omega.{arith}
use native.Mathlib.Nat.{add-zero}
use lib.ListN.{length, drop, drop_of_length-le}
use Rattle.std.specs.Prelude.{Ok, Err}
use Rattle.amounts.specs.Requests.{Request}
use Rattle.card.specs.declared.Refusal.{Refusal}
use Rattle.trace.specs.Reading.{Read, good, stop, push, read_of, rows}
use Rattle.trace.specs.Steps.{RequestVal, counted}
use Rattle.trace.proofs.Enough.{read_nil}

-- what an answer of the checking pass says of the requests
pub counted_good : (x : Read) (m : ℕ) → counted 0 x ≡ Ok m → (x ≡ good (rows x)) × (length (rows x) ≡ m)
counted_good (good l) m e = (refl, let h : 0 + length l ≡ m = cc in omega arith)
counted_good (stop r) m e = let z : ◌≡◌ {A = ℕ} 0 1 = cc in absurd (omega arith)

pub counted_stop : (x : Read) (r : Refusal) → counted 0 x ≡ Err r → x ≡ stop r
counted_stop (good l) r e = let z : ◌≡◌ {A = ℕ} 0 1 = cc in absurd (omega arith)
counted_stop (stop a) r e = cc

counted_push : (m : ℕ) (q : Request) (x : Read) → counted m (push q x) ≡ counted (m + 1) x
counted_push m q (good l) = ap Ok (omega arith)
counted_push m q (stop r) = refl

module _ (part : List ℕ) (c : ℕ) (x : Read) (count at : ℕ) (e : counted 0 x ≡ counted count (read_of (length part) c (drop at part))) where
  pub count_end : length part ≤ at → Ok count ≡ counted 0 x
  count_end h = sym (e ∙ rw (drop_of_length-le part {i = at} h, read_nil (length part) c) (ap Ok (add-zero count)))

  pub count_stop : (r : Refusal) → read_of (length part) c (drop at part) ≡ stop r → Err r ≡ counted 0 x
  count_stop r s = sym (e ∙ ap (counted count) s)

  pub count_more : (next : ℕ) → RequestVal (read_of (length part) c (drop at part)) part c at next → counted 0 x ≡ counted (count + 1) (read_of (length part) c (drop next part))
  count_more next p = e ∙ ap (counted count) p.judged ∙ counted_push count p.request (read_of (length part) c (drop next part))
