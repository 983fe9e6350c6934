-- The writing pass of the reader at its loop's head. Assumes nothing.
use Prim.Native.Nat.{ℕ, ◌+◌, ◌≤◌, ◌<◌}
use mathlib.Core.Path.{◌≡◌}
use mathlib.Core.List.{List, [], ◌∷◌}
use native.Mathlib.Omega.{arith}
use lib.ListN.{length, drop, set, length-map}
use Rattle.amounts.specs.Requests.{Request}
use Rattle.trace.specs.Reading.{good, read_of, rows}
use Rattle.trace.specs.Promise.{Over, files_of, sizes_of, costs_of}
use Rattle.trace.specs.Steps.{Requested, RequestAt, Ready}
use Rattle.trace.specs.declared.reader.Taken.{Taken}
use Rattle.trace.proofs.Scanning.{counted_good}
use Rattle.trace.proofs.Laying.{Left, left_first, left_one, left_end, laid_over}

-- of the requests `all`, those from `at` on are left, and go to the entries from i on
pub record Filling (part : List ℕ) (c : ℕ) (all : List Request) (f₀ s₀ d₀ f s d : List ℕ) (at i : ℕ) : Type 0 where
  pub rest : List Request
  pub left : read_of (length part) c (drop at part) ≡ good rest
  pub number : i + length rest ≡ length all
  pub in_files : Left (files_of all) 0 f₀ (files_of rest) i f
  pub in_sizes : Left (sizes_of all) 0 s₀ (sizes_of rest) i s
  pub in_costs : Left (costs_of all) 0 d₀ (costs_of rest) i d

abbrev all_of : List ℕ → ℕ → ℕ → List Request
all_of part c from = rows (read_of (length part) c (drop from part))

module _ (part : List ℕ) (c from count : ℕ) (f₀ s₀ d₀ : List ℕ) (ready : Ready part c from count f₀ s₀ d₀) where
  all_many : length (all_of part c from) ≡ count
  all_many = (counted_good (read_of (length part) c (drop from part)) count ready.counts).1

  pub filling_first : Filling part c (all_of part c from) f₀ s₀ d₀ f₀ s₀ d₀ from 0
  filling_first =
      record {
        rest = all_of part c from;
        left = (counted_good (read_of (length part) c (drop from part)) count ready.counts).0;
        number = omega arith;
        in_files = left_first _ _ _;
        in_sizes = left_first _ _ _;
        in_costs = left_first _ _ _;
      }

  pub filling_more : (f s d : List ℕ) (at i : ℕ) → Filling part c (all_of part c from) f₀ s₀ d₀ f s d at i → i < count → (r : Taken) → RequestAt part at r
      → Filling part c (all_of part c from) f₀ s₀ d₀ (set f i r.request.file) (set s i r.request.size) (set d i r.request.cost) r.next (i + 1)
  filling_more f s d at i w h r a = go w.rest w.left w.number w.in_files w.in_sizes w.in_costs
    where
      go : (l : List Request) → read_of (length part) c (drop at part) ≡ good l → i + length l ≡ length (all_of part c from)
          → Left (files_of (all_of part c from)) 0 f₀ (files_of l) i f → Left (sizes_of (all_of part c from)) 0 s₀ (sizes_of l) i s → Left (costs_of (all_of part c from)) 0 d₀ (costs_of l) i d
          → Filling part c (all_of part c from) f₀ s₀ d₀ (set f i r.request.file) (set s i r.request.size) (set d i r.request.cost) r.next (i + 1)
      go [] e n hf hs hd = absurd (omega (arith, all_many))
      go (q ∷ l) e n hf hs hd =
          let p = a.first (length part) c q l ready.catalogue_in e in
          record {
            rest = l;
            left = p.rest;
            number = omega arith;
            in_files = rw p.file (left_one q.file (files_of l) i f hf);
            in_sizes = rw p.size (left_one q.size (sizes_of l) i s hs);
            in_costs = rw p.cost (left_one q.cost (costs_of l) i d hd);
          }

  pub filling_there : (f s d : List ℕ) (at i : ℕ) → Filling part c (all_of part c from) f₀ s₀ d₀ f s d at i → i < count → Requested part at
  filling_there f s d at i w h = go w.rest w.left w.number
    where
      go : (l : List Request) → read_of (length part) c (drop at part) ≡ good l → i + length l ≡ length (all_of part c from) → Requested part at
      go [] e n = absurd (omega (arith, all_many))
      go (q ∷ l) e n = record { n = length part; catalogue = c; catalogue_in = ready.catalogue_in; q = q; after = l; reads = e }

  pub filling_end : (f s d : List ℕ) (at i : ℕ) → Filling part c (all_of part c from) f₀ s₀ d₀ f s d at i → count ≤ i → Over (all_of part c from) f₀ s₀ d₀ f s d
  filling_end f s d at i w h = go w.rest w.number w.in_files w.in_sizes w.in_costs
    where
      go : (l : List Request) → i + length l ≡ length (all_of part c from)
          → Left (files_of (all_of part c from)) 0 f₀ (files_of l) i f → Left (sizes_of (all_of part c from)) 0 s₀ (sizes_of l) i s → Left (costs_of (all_of part c from)) 0 d₀ (costs_of l) i d
          → Over (all_of part c from) f₀ s₀ d₀ f s d
      go [] n hf hs hd =
          record {
            in_files = laid_over (files_of (all_of part c from)) f₀ f i (rw length-map (omega (arith, all_many, ready.room_files))) (left_end i f hf);
            in_sizes = laid_over (sizes_of (all_of part c from)) s₀ s i (rw length-map (omega (arith, all_many, ready.room_sizes))) (left_end i s hs);
            in_costs = laid_over (costs_of (all_of part c from)) d₀ d i (rw length-map (omega (arith, all_many, ready.room_costs))) (left_end i d hd);
          }
      go (q ∷ l) n hf hs hd = absurd (omega (arith, all_many))
