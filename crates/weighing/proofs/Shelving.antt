-- The files and the sums: what the passes over them need of each other. Assumes nothing.
use mathlib.Core.Path.{◌≡◌, refl, sym, ap, ◌∙◌}
use mathlib.Core.Logic.{inl, inr, ⊎_elim}
use mathlib.Core.List.{List}
use Prim.Native.Nat.{ℕ}
use native.Mathlib.Omega.{arith}
use lib.ListN.{get_or}
use Rattle.amounts.specs.Worth.{product_of}
use Rattle.method.specs.Shelf.{product}
use Rattle.tables.specs.Tables.{Tables, shelf_of}
use Rattle.tables.specs.declared.tally.Tally.{Tally}
use Rattle.tables.proofs.Ranges.{bounded}
use Rattle.weighing.specs.Weighing.{AllLawful, Weighable, Balanced, Shelvable}
use Rattle.weighing.proofs.Adding.{sum_same}

-- files that are lawful can be weighed
pub weighable : (a : Tally) (t : Tables) → Shelvable a t → AllLawful a.settings a.inflation.0 a.requests t
    → Weighable a.settings.catalogue.0 t
weighable a t h w =
    let l = h.long.long in
    record {
      long = l.place;
      few = (bounded a.settings h.range).catalogue.1;
      inside = λ f b. ⊎_elim (λ e. inl e) (λ x. inr (omega (arith, x.0.inside, l.size), omega (arith, x.0.inside, l.freq))) (w f b);
      valued = λ f b. ⊎_elim (λ e. inl e) (λ x. inr (omega (arith, x.0.inside, l.cost), x.1.fine.valued)) (w f b);
      seldom = λ f b. ⊎_elim (λ e. inl e) (λ x. inr x.1.fine.seldom) (w f b);
    }

-- the sums do not look at the files of the places, at keys and at stamps
pub balanced_as : (a : Tally) (t u : Tables) (n : ℕ) → t.place ≡ u.place → t.size ≡ u.size → t.cost ≡ u.cost → t.freq ≡ u.freq → Balanced a (shelf_of n t) → Balanced a (shelf_of n u)
balanced_as a t u n p s c f b = record {
  files = sym (sum_same (λ r. 1) (λ r. 1) t u (λ k. refl) n p) ∙ b.files;
  bytes = sym (sum_same (λ r. r.size) (λ r. r.size) t u (λ k. ap (λ (l : List ℕ). get_or l k 0) s) n p) ∙ b.bytes;
  fits = b.fits;
  freqs = omega (arith, sum_same (λ r. r.freq) (λ r. r.freq) t u (λ k. ap (λ (l : List ℕ). get_or l k 0) f) n p, b.freqs);
  total = omega (arith, sum_same product product t u (λ k i. product_of (get_or (f i) k 0) (get_or (s i) k 0) (get_or (c i) k 0)) n p, b.total);
}
