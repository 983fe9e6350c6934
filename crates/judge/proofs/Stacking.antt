-- The pass over the places: what holds after p turns. Assumes nothing.
use mathlib.Core.Path.{◌≡◌, refl, sym, ap, ◌∙◌, subst}
use mathlib.Core.Logic.{⊎_elim}
use mathlib.Core.Bool.{not}
use mathlib.Core.List.{List}
use Prim.Native.Nat.{ℕ, ◌+◌, ◌≤◌, ◌<◌}
use native.Mathlib.Omega.{arith}
use borrow.Author.Count.{below_more}
use borrow.Author.Tests.{eq-eqb, ne_eqb}
use lib.ListN.{length, get_or, set, length-set}
use lib.Seq.{get_or-set_same, get_or-set_other}
use Rattle.amounts.specs.Limits.{no_place}
use Rattle.amounts.specs.declared.settings.Settings.{Settings}
use Rattle.amounts.proofs.Tests.{same}
use Rattle.queue.specs.Queue.{one}
use Rattle.tables.specs.Tables.{Tables}
use Rattle.tables.specs.Below.{sum_below}
use Rattle.tables.specs.Sound.{Occupied, Zero}
use Rattle.tables.proofs.Counting.{sum_below_more}
use Rattle.judge.specs.Passes.{noted, Stackable}

pub noted_none : (entry : List ℕ) (p : ℕ) → get_or entry p 0 ≡ no_place → noted entry p ≡ 0
noted_none entry p e = ap (λ b. one (not b)) (eq-eqb (get_or entry p 0) no_place e)

pub noted_some : (entry : List ℕ) (p : ℕ) → (get_or entry p 0 ≡ no_place → ⊥) → noted entry p ≡ 1
noted_some entry p ne = ap (λ b. one (not b)) (ne_eqb (get_or entry p 0) no_place ne)

module _ (s : Settings) (t : Tables) (entry free₀ : List ℕ) where
  -- of the first p places those occupied are in the index, the others are 0 and make up the stack
  pub record Stacking (free : List ℕ) (top p : ℕ) : Type 0 where
    pub most : p ≤ s.places.0
    pub indexed : (k : ℕ) → k < p → Occupied s t k → get_or entry k 0 ≡ no_place → ⊥
    pub unused : (k : ℕ) → k < p → (Occupied s t k → ⊥) → Zero t k
    pub count : top + sum_below (noted entry) p ≡ p
    pub spare : (i : ℕ) → i < top → (get_or free i 0 < p) × (Occupied s t (get_or free i 0) → ⊥)
    pub apart : (i j : ℕ) → i < top → j < top → get_or free i 0 ≡ get_or free j 0 → i ≡ j
    pub long : length free ≡ length free₀

  pub stacking_as : {free free' : List ℕ} {top top' p : ℕ} → free ≡ free' → top ≡ top' → Stacking free' top' p → Stacking free top p
  stacking_as {free} {free'} {top} {top'} {p} e f g = subst (λ (l : List ℕ). Stacking l top p) (sym e) (subst (λ (k : ℕ). Stacking free' k p) (sym f) g)

  module _ (a : Stackable s t entry free₀) where
    pub stacking_start : Stacking free₀ 0 0
    unfolding sum_below
    stacking_start = record {
      most = omega arith;
      indexed = λ k l. absurd (omega arith);
      unused = λ k l. absurd (omega arith);
      count = refl;
      spare = λ i l. absurd (omega arith);
      apart = λ i j l. absurd (omega arith);
      long = refl;
    }

    module _ (free : List ℕ) (top p : ℕ) (g : Stacking free top p) (h : p < s.places.0) where
      -- an occupied place
      pub stacking_used : Occupied s t p → (get_or entry p 0 ≡ no_place → ⊥) → Stacking free top (p + 1)
      stacking_used w ne = record {
        most = omega arith;
        indexed = below_more _ _ g.indexed (λ _. ne);
        unused = below_more _ _ g.unused (λ no. absurd (no w));
        count = omega (arith, sum_below_more (noted entry) p, noted_some entry p ne, g.count);
        spare = λ i l. (omega (arith, (g.spare i l).0), (g.spare i l).1);
        apart = g.apart;
        long = g.long;
      }

      pub room : top < length free
      room = omega (arith, g.count, g.long, a.free_long)

      -- an unused place goes on the stack
      module _ (w : Occupied s t p → ⊥) (z : Zero t p) where
        at_top : get_or (set free top p) top 0 ≡ p
        at_top = get_or-set_same free top p 0 room

        below_top : (i : ℕ) → i < top → get_or (set free top p) i 0 ≡ get_or free i 0
        below_top i l = get_or-set_other free top i p 0 (omega arith)

        unnoted : noted entry p ≡ 0
        unnoted = ⊎_elim (λ e. noted_none entry p e) (λ ne. absurd (w (a.occupied p h ne))) (same (get_or entry p 0) no_place)

        -- what was stacked before is below p
        new : (i : ℕ) → i < top → get_or (set free top p) i 0 ≡ get_or (set free top p) top 0 → ⊥
        new i l e = omega (arith, below_top i l, at_top, (g.spare i l).0)

        apart_top : (i j : ℕ) → i < top + 1 → j < top + 1 → get_or (set free top p) i 0 ≡ get_or (set free top p) j 0 → i ≡ j
        apart_top i j l m e = ⊎_elim
            (λ x. ⊎_elim (λ y. x ∙ sym y) (λ y. absurd (new j (omega arith) (sym e ∙ ap (λ (k : ℕ). get_or (set free top p) k 0) x))) (same j top))
            (λ x. ⊎_elim
            (λ y. absurd (new i (omega arith) (e ∙ ap (λ (k : ℕ). get_or (set free top p) k 0) y)))
            (λ y. g.apart i j (omega arith) (omega arith) (sym (below_top i (omega arith)) ∙ e ∙ below_top j (omega arith)))
            (same j top))
            (same i top)

        pub stacking_free : Stacking (set free top p) (top + 1) (p + 1)
        stacking_free = record {
          most = omega arith;
          indexed = below_more _ _ g.indexed (λ no. absurd (w no));
          unused = below_more _ _ g.unused (λ _. z);
          count = omega (arith, sum_below_more (noted entry) p, unnoted, g.count);
          spare = below_more _ _ (λ i l. rw (below_top i l) (omega (arith, (g.spare i l).0), (g.spare i l).1)) (rw at_top (omega arith, w));
          apart = apart_top;
          long = length-set free top p ∙ g.long;
        }
