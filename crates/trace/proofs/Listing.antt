-- The requests of the writer's three lists, one after the other, and the writer's loops over them. Assumes nothing.
use Prim.Native.Nat.{ℕ, suc, ◌+◌, ◌-◌, ◌≤◌, ◌<◌, min}
use mathlib.Core.Path.{◌≡◌, refl, ap, sym, subst, ◌∙◌}
use mathlib.Core.List.{List, [], ◌∷◌, ◌++◌}
use mathlib.Core.Bool.{true, false}
use native.Mathlib.Omega.{arith}
use borrow.Author.Tests.{le-leb, lt-leb, lt-ltb, le-ltb}
use lib.ListN.{length, drop, drop_of_length-le, length-append}
use Rattle.std.specs.Prelude.{Result, Ok, Err}
use Rattle.amounts.specs.Requests.{Request}
use Rattle.amounts.proofs.Tests.{pick_true, pick_false}
use Rattle.card.specs.declared.Refusal.{Refusal}
use Rattle.card.specs.declared.Refusal.TheVariants.{Short, Range, Room}
use Rattle.trace.specs.Fields.{is_request}
use Rattle.trace.specs.Writing.{request_bytes, part_bytes, requests_in, first_out}
use Rattle.trace.specs.Stores.{Listed, row_at, sized, Measured, Judged, Roomy, Laid}
use Rattle.trace.proofs.Groups.{at_drop}
use Rattle.trace.proofs.Laying.{Left, left_more}

-- as many requests as files
pub listed_many : (f s d : List ℕ) → Listed f s d → length (requests_in f s d) ≡ length f
listed_many [] s d h = refl
listed_many (f ∷ fs) [] d h = absurd (omega (arith, h.sizes))
listed_many (f ∷ fs) (s ∷ ss) [] h = absurd (omega (arith, h.costs))
listed_many (f ∷ fs) (s ∷ ss) (d ∷ ds) h = ap suc (listed_many fs ss ds (record { sizes = omega (arith, h.sizes); costs = omega (arith, h.costs) }))

-- the requests from an index on
unfoldable pub rest_at : List ℕ → List ℕ → List ℕ → ℕ → List Request
rest_at f s d i = requests_in (drop i f) (drop i s) (drop i d)

module _ (f s d : List ℕ) where
  pub rest_end : (i : ℕ) → length f ≤ i → rest_at f s d i ≡ []
  unfolding rest_at
  rest_end i h = rw (drop_of_length-le f {i = i} h)

  pub rest_more : Listed f s d → (i : ℕ) → i < length f → rest_at f s d i ≡ row_at f s d i ∷ rest_at f s d (i + 1)
  unfolding rest_at
  rest_more h i l = rw (at_drop f i l, at_drop s i (omega (arith, h.sizes)), at_drop d i (omega (arith, h.costs)))

  module _ (c : ℕ) (h : Listed f s d) (i : ℕ) where
    -- the search for the first request out of range
    pub out_here : first_out c (requests_in f s d) ≡ i + first_out c (rest_at f s d i) → i < length f → is_request c (row_at f s d i) ≡ false → i ≡ first_out c (requests_in f s d)
    out_here e l r = let x : first_out c (rest_at f s d i) ≡ 0 = rw (rest_more h i l, r) in omega arith

    pub out_later : first_out c (requests_in f s d) ≡ i + first_out c (rest_at f s d i) → i < length f → is_request c (row_at f s d i) ≡ true → first_out c (requests_in f s d) ≡ (i + 1) + first_out c (rest_at f s d (i + 1))
    out_later e l r = let x : first_out c (rest_at f s d i) ≡ suc (first_out c (rest_at f s d (i + 1))) = rw (rest_more h i l, r) in omega arith

    pub out_none : first_out c (requests_in f s d) ≡ i + first_out c (rest_at f s d i) → length f ≤ i → i ≡ first_out c (requests_in f s d)
    out_none e l = let x : first_out c (rest_at f s d i) ≡ 0 = rw (rest_end i l) in omega arith

  module _ (h : Listed f s d) (i : ℕ) where
    -- the bytes from an index on
    pub bytes_more : i < length f → length (part_bytes (rest_at f s d i)) ≡ length (request_bytes (row_at f s d i)) + length (part_bytes (rest_at f s d (i + 1)))
    bytes_more l = rw (rest_more h i l) (length-append (request_bytes (row_at f s d i)) (part_bytes (rest_at f s d (i + 1))))

    pub bytes_end : length f ≤ i → length (part_bytes (rest_at f s d i)) ≡ 0
    bytes_end l = rw (rest_end i l)

    -- the stores from an index on
    module _ {vs out₀ : List ℕ} {from : ℕ} (at : ℕ) (out : List ℕ) (left : Left vs from out₀ (part_bytes (rest_at f s d i)) at out) where
      split : i < length f → Left vs from out₀ (request_bytes (row_at f s d i) ++ part_bytes (rest_at f s d (i + 1))) at out
      split l = subst (λ (x : List Request). Left vs from out₀ (part_bytes x) at out) (rest_more h i l) left

      pub put_room : i < length f → Roomy vs from out₀ → Roomy (request_bytes (row_at f s d i)) at out
      put_room l r = record { room = omega (arith, r.room, left.ends, left.long, bytes_more l) }

      pub put_more : i < length f → (out' : List ℕ) (at' : ℕ) → Laid (request_bytes (row_at f s d i)) at out out' at' → Left vs from out₀ (part_bytes (rest_at f s d (i + 1))) at' out'
      put_more l out' at' p = left_more _ _ _ _ _ _ (split l) p

      pub put_end : length f ≤ i → Left vs from out₀ [] at out
      put_end l = subst (λ (x : List Request). Left vs from out₀ (part_bytes x) at out) (rest_end i l) left

-- 6, or the number of bytes
module _ (head : ℕ) (l : List Request) (room : ℕ) where
  together : (front : List ℕ) → head ≡ length front → head + length (part_bytes l) ≡ length (front ++ part_bytes l)
  together front e = omega (arith, length-append front (part_bytes l))

  pub measured_short : room < head + length (part_bytes l) → Measured head l room (Err Room)
  measured_short h = record { told = λ front e. ap sized (sym (pick_false _ _ (lt-leb (length (front ++ part_bytes l)) room (omega (arith, together front e))))) }

  pub measured_long : (total : ℕ) → head + length (part_bytes l) ≡ total → total ≤ room → Measured head l room (Ok total)
  measured_long total q h =
      record {
        told = λ front e. ap Ok (sym q ∙ together front e) ∙ ap sized (sym (pick_true _ _ (le-leb (length (front ++ part_bytes l)) room (omega (arith, together front e)))));
      }

module _ (c head room : ℕ) (f s d : List ℕ) where
  pub judged_short : min (length s) (length d) < length f → Judged c head room f s d (Err Short)
  judged_short h = record { told = λ front e. ap sized (sym (pick_false _ _ (lt-leb _ _ h))) }

  module _ (h : Listed f s d) (bad : ℕ) (e : bad ≡ first_out c (requests_in f s d)) where
    enough : length f ≤ min (length s) (length d)
    enough = omega (arith, h.sizes, h.costs)

    pub judged_range : bad < length f → Judged c head room f s d (Err (Range bad))
    judged_range l =
        let out : first_out c (requests_in f s d) < length (requests_in f s d) = omega (arith, listed_many f s d h) in
        record { told = λ front p. ap (λ (i : ℕ). Err (Range i)) e ∙ ap sized (sym (pick_true _ _ (le-leb _ _ enough) ∙ pick_true _ _ (lt-ltb _ _ out))) }

    pub judged_room : length f ≤ bad → (r : Result ℕ Refusal) → Measured head (requests_in f s d) room r → Judged c head room f s d r
    judged_room l r m =
        let all_in : length (requests_in f s d) ≤ first_out c (requests_in f s d) = omega (arith, listed_many f s d h) in
        record { told = λ front p. m.told front p ∙ ap sized (sym (pick_true _ _ (le-leb _ _ enough) ∙ pick_false _ _ (le-ltb _ _ all_in))) }

-- the loop that adds up the bytes: `total` are counted, and those from an index on are left
module _ (f s d : List ℕ) (h : Listed f s d) (head room total i : ℕ) (e : head + length (part_bytes (requests_in f s d)) ≡ total + length (part_bytes (rest_at f s d i))) (within : total ≤ room) where
  module _ (inside : i < length f) (more : ℕ) (same : more ≡ length (request_bytes (row_at f s d i))) where
    pub measure_short : room - total < more → Measured head (requests_in f s d) room (Err Room)
    measure_short l = measured_short head (requests_in f s d) room (omega (arith, bytes_more f s d h i inside))

    pub measure_more : head + length (part_bytes (requests_in f s d)) ≡ (total + more) + length (part_bytes (rest_at f s d (i + 1)))
    measure_more = omega (arith, bytes_more f s d h i inside)

  pub measure_end : length f ≤ i → Measured head (requests_in f s d) room (Ok total)
  measure_end l = measured_long head (requests_in f s d) room total (omega (arith, bytes_end f s d h i l)) within
