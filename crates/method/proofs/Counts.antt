-- The counts agree: what is dropped, what is evicted and what is kept add up to what was kept and what is admitted. Assumes nothing.
use mathlib.Core.Path.{◌≡◌, refl, ◌∙◌}
use mathlib.Core.List.{[], ◌∷◌}
use Prim.Native.Nat.{ℕ, zero, suc, ◌+◌, ◌<◌}
use native.Mathlib.Omega.{arith}
use lib.ListN.{length, get_or, set, length-set}
use Rattle.amounts.specs.Requests.{Request, resolved}
use Rattle.method.specs.Shelf.{Kept, Slot, none, kept, Shelf, files, Found, nothing, at}
use Rattle.method.specs.Method.{Policy, Settings, Wanted, next, beside, among, Cleared, clear, Served, State, newcomer, hit, keyed, again, meet, dropping, step}
use Rattle.method.specs.Totals.{on_admitted, copies}
use Rattle.method.proofs.Shelves.{kept_lt, sum_set_eq}
use Rattle.method.proofs.Cases.{room₁, admitted₁, admitted₂, meet_by, old, left, left_length, left_sum}
use Rattle.method.proofs.Room.{next_at, clear_stop, clear_more, clear_keeps}

count_turn : (c : Settings) (e : Wanted) (n : ℕ) → ((l : ℕ) (s : Shelf) → length (clear c e n l s).taken + files (clear c e n l s).shelf ≡ files s)
    → (l : ℕ) (s : Shelf) (f : Found) → next c e s ≡ f → length (clear c e (suc n) l s).taken + files (clear c e (suc n) l s).shelf ≡ files s
count_turn c e n ih l s nothing p = rw (clear_stop c e n l s p) (omega arith)
count_turn c e n ih l s (at i r) p =
    let h : get_or s i none ≡ kept r = (next_at c e s i r p).1.0 in
    let d : files (set s i none) + 1 ≡ 0 + files s = rw h at (sum_set_eq (λ r. 1) s i none (kept_lt s i r h)) in
    rw (clear_more c e n l s i r p) (omega (arith, ih r.key (set s i none)))

pub clear_counts : (c : Settings) (e : Wanted) (n l : ℕ) (s : Shelf) → length (clear c e n l s).taken + files (clear c e n l s).shelf ≡ files s
unfolding clear
clear_counts c e zero l s = omega arith
clear_counts c e (suc n) l s = count_turn c e n (λ l s. clear_counts c e n l s) l s (next c e s) refl

-- an empty slot stays so
abbrev Free : ℕ → ℕ → ℕ → Shelf → Type 0
Free f n l s = (get_or s f none ≡ none) × (length s ≡ n)

free_set : (s : Shelf) (f i : ℕ) → get_or s f none ≡ none → get_or (set s i none) f none ≡ none
free_set [] f i h = h
free_set (x ∷ s) zero zero h = refl
free_set (x ∷ s) zero (suc i) h = h
free_set (x ∷ s) (suc f) zero h = h
free_set (x ∷ s) (suc f) (suc i) h = free_set s f i h

free_clear : (c : Settings) (e : Wanted) (f n k l : ℕ) (s : Shelf) → Free f n l s → Free f n (clear c e k l s).inflation (clear c e k l s).shelf
free_clear c e f n k l s h = clear_keeps c e (Free f n) (λ l s i r h g. (free_set s f i h.0, length-set s i none ∙ h.1)) k l s h

-- the evicted and the kept afterwards are n and the admitted
abbrev Counts : ℕ → Served State → Type 0
Counts n x = length x.reply.evicted + files x.state.shelf ≡ n + on_admitted x.reply.outcome 1

module _ (p : Policy) (c : Settings) (l : ℕ) (s : Shelf) (t : ℕ) (q : Request) (b : q.file < length s) where
  counts_hit : (r : Kept) → get_or s q.file none ≡ kept r → Counts (files s) (hit p l s t q.file r)
  counts_hit r e =
      let y : Slot = kept (keyed l r.size r.cost (again p r.freq) t) in
      let d : files (set s q.file y) + 1 ≡ 1 + files s = rw e at (sum_set_eq (λ r. 1) s q.file y b) in
      omega arith

  counts₁ : get_or s q.file none ≡ none → Counts (files s) (admitted₁ c l s t q)
  counts₁ h =
      let x : Cleared = room₁ c l s q in
      let y : Slot = newcomer x.inflation q t in
      let f : Free q.file (length s) x.inflation x.shelf = free_clear c (beside q.size) q.file (length s) (length s) l s (h, refl) in
      let d : files (set x.shelf q.file y) + 0 ≡ 1 + files x.shelf = rw f.0 at (sum_set_eq (λ r. 1) x.shelf q.file y (omega (arith, f.1))) in
      omega (arith, clear_counts c (beside q.size) (length s) l s)

  counts₂ : get_or s q.file none ≡ none → Counts (files s) (admitted₂ c l s t q)
  counts₂ h =
      let y : Slot = newcomer l q t in
      let d : files (set s q.file y) + 0 ≡ 1 + files s = rw h at (sum_set_eq (λ r. 1) s q.file y b) in
      omega (arith, clear_counts c among (length s) l (set s q.file y))

-- and so are they with the dropped, which was kept before
abbrev pub CountsAll : ℕ → Served State → Type 0
CountsAll n x = copies x.reply.dropped + length x.reply.evicted + files x.state.shelf ≡ n + on_admitted x.reply.outcome 1

counts_dropping : (n k : ℕ) (x : Slot) (y : Served State) → copies x + k ≡ n → Counts k y → CountsAll n (dropping x y)
counts_dropping n k x y e h = omega (arith, e, h)

-- what is dropped, what is evicted and what is kept are what was kept and what is admitted
pub step_counts : (p : Policy) (c : Settings) (st : State) (q : Request) → q.file < length st.shelf
    → CountsAll (files st.shelf) (step p c st q)
unfolding step
step_counts p c st q b =
    let l : ℕ = st.inflation in
    let s : Shelf = left st.shelf q.file q.size in
    let t : ℕ = st.stamp in
    let b : q.file < length s = omega (arith, left_length st.shelf q.file q.size) in
    counts_dropping (files st.shelf) (files s) (old st.shelf q.file q.size) (meet p c l s t (resolved q) (get_or s q.file none)) (left_sum st.shelf q.file q.size (λ r. 1))
    (meet_by p c l s t (resolved q) (Counts (files s)) (λ w. omega arith) (counts_hit p c l s t (resolved q) b) (λ _ h _. counts₁ p c l s t (resolved q) b h)
    (λ _ h _. counts₂ p c l s t (resolved q) b h) (get_or s q.file none) refl)
