-- The tests of a record and of the sums, over plain numbers. Assumes nothing.
use mathlib.Core.Path.{◌≡◌, sym, ◌∙◌}
use mathlib.Core.Bool.{Bool}
use Prim.Native.Nat.{ℕ, ◌+◌, ◌-◌, ◌*◌, ◌/◌, ◌≤◌, ◌<◌}
use native.Mathlib.Omega.{arith}
use lib.Dec.{leb}
use borrow.Author.Tests.{leb-true, le-leb}
use Rattle.amounts.specs.Limits.{lift, requests_most}
use Rattle.amounts.specs.Worth.{worth_most}
use Rattle.method.specs.Shelf.{Kept, Shelf, sum, product}
use Rattle.method.specs.Method.{Policy}
use Rattle.method.specs.Promise.{Fine}
use Rattle.tables.specs.declared.tally.Tally.{Tally}
use Rattle.tables.specs.Exact.{Exact}
use Rattle.weighing.specs.Weighing.{Right, Summed, Balanced}
use Rattle.weighing.specs.declared.sums.Sums.{Sums}
use Rattle.tables.proofs.Answers.{answer_call}

-- ---- a record

pub right_last : {p : Policy} {l n : ℕ} {r : Kept} → Fine p r → r.stamp < n → l ≤ r.key → {d m : ℕ} {b : Bool} → d ≡ r.key - l → m ≡ product r → b ≡ leb d m → Exact (Right p l n r) b
right_last f b c {d} {m} u v e =
    answer_call e (λ h. record { fine = f; stamp = b; key_least = c; key_most = omega (arith, leb-true d m h) })
    (λ w. le-leb d m (omega (arith, w.key_most)))

-- ---- the sums

-- the largest worths of all requests together are few lifts
pub worths_few : (n : ℕ) {most : ℕ} → n ≤ requests_most → most ≡ n * worth_most → most / lift ≤ 4096
worths_few n h o = omega (arith, h, o)

module _ (a : Tally) (s : Shelf) {most : ℕ} (o : most ≡ a.requests * worth_most) where
  -- by the tests, the last of whole inflation and the products
  pub balanced_last : {y : Sums} {whole w : ℕ} {b : Bool} → Summed s y → y.files ≡ a.files_kept → y.bytes.0 ≡ a.bytes_kept.0
      → a.bytes_kept.0 ≤ a.settings.capacity.0 → y.freqs ≤ a.requests → whole ≡ a.lifts * lift + a.inflation.0
      → w ≡ whole + sum product s → b ≡ leb w most → Exact (Balanced a s) b
  balanced_last {y} {whole} {w} h f k c g l x e =
      answer_call e
      (λ z. record {
        files = sym h.files ∙ f;
        bytes = sym h.bytes ∙ k;
        fits = c;
        freqs = omega (arith, h.freqs);
        total = omega (arith, leb-true w most z, x, l, o);
      })
      (λ b. le-leb w most (omega (arith, b.total, x, l, o)))
