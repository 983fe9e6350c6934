-- One request by cases: whatever holds of a hit, of a pass and of each policy's admission holds of the step; and what the old copy leaves. Assumes nothing.
use mathlib.Core.List.{[]}
use mathlib.Core.Path.{◌≡◌, refl}
use mathlib.Core.Bool.{Bool, true, false}
use Prim.Native.Nat.{ℕ, ◌+◌, ◌≤◌}
use native.Mathlib.Omega.{arith}
use lib.Dec.{ltb, eqb}
use borrow.Author.Tests.{ltb-false, eqb-false}
use lib.ListN.{length, get_or, set, length-set}
use Rattle.amounts.specs.Limits.{pick}
use Rattle.amounts.specs.Requests.{Request}
use Rattle.method.specs.Shelf.{Kept, Slot, none, kept, Shelf, weigh, sum, Each}
use Rattle.method.specs.Method.{Policy, gds, gdsf, Settings, beside, among, Cleared, clear, Served, State, newcomer, missed, served, hit, goes, settle, admit, meet, old_copy, drop_old}
use Rattle.method.specs.declared.outcome.Pass.{Pass}
use Rattle.method.specs.declared.outcome.Pass.TheVariants.{TooBig, LowKey}
use Rattle.method.specs.declared.outcome.Outcome.TheVariants.{Admitted, Passed}
use Rattle.method.proofs.Shelves.{none_kept, each_set, kept_lt, sum_set_eq}

-- what each policy clears for the newcomer q
abbrev pub room₁ : Settings → ℕ → Shelf → Request → Cleared
room₁ c l s q = clear c (beside q.size) (length s) l s

abbrev pub room₂ : Settings → ℕ → Shelf → ℕ → Request → Cleared
room₂ c l s t q = clear c among (length s) l (set s q.file (newcomer l q t))

abbrev pub admitted₁ : Settings → ℕ → Shelf → ℕ → Request → Served State
admitted₁ c l s t q =
    let x = room₁ c l s q in
    served x.inflation (set x.shelf q.file (newcomer x.inflation q t)) t (missed q x.taken Admitted)

abbrev pub admitted₂ : Settings → ℕ → Shelf → ℕ → Request → Served State
admitted₂ c l s t q = let x = room₂ c l s t q in served x.inflation x.shelf t (missed q x.taken Admitted)

module _ (c : Settings) (l : ℕ) (s : Shelf) (t : ℕ) (q : Request) (P : Served State → Type 0)
    (on-pass : (w : Pass) → P (served l s t (missed q [] (Passed w)))) where
  settle_by : (x : Cleared) (b : Bool) → (b ≡ false → P (served x.inflation x.shelf t (missed q x.taken Admitted))) → P (settle l s t q x b)
  settle_by x true h = on-pass LowKey
  settle_by x false h = h refl

  admit_by : (p : Policy) → (p ≡ gds → P (admitted₁ c l s t q)) → (p ≡ gdsf → goes q.file (room₂ c l s t q).taken ≡ false → P (admitted₂ c l s t q))
      → P (admit p c l s t q)
  unfolding admit
  admit_by gds f g = f refl
  admit_by gdsf f g = settle_by (room₂ c l s t q) (goes q.file (room₂ c l s t q).taken) (g refl)

  miss_by : (p : Policy) → (q.size ≤ c.capacity → P (admit p c l s t q)) → (b : Bool) → ltb c.capacity q.size ≡ b
      → P (pick b (served l s t (missed q [] (Passed TooBig))) (admit p c l s t q))
  miss_by p h true e = on-pass TooBig
  miss_by p h false e = h (ltb-false _ _ e)

module _ (p : Policy) (c : Settings) (l : ℕ) (s : Shelf) (t : ℕ) (q : Request) (P : Served State → Type 0)
    (on-pass : (w : Pass) → P (served l s t (missed q [] (Passed w))))
    (on-hit : (r : Kept) → get_or s q.file none ≡ kept r → P (hit p l s t q.file r))
    (on-gds : p ≡ gds → get_or s q.file none ≡ none → q.size ≤ c.capacity → P (admitted₁ c l s t q))
    (on-gdsf : p ≡ gdsf → get_or s q.file none ≡ none → q.size ≤ c.capacity → P (admitted₂ c l s t q)) where
  pub meet_by : (x : Slot) → get_or s q.file none ≡ x → P (meet p c l s t q x)
  meet_by (kept r) e = on-hit r e
  meet_by none e =
      miss_by c l s t q P on-pass p (λ h. admit_by c l s t q P on-pass p (λ a. on-gds a e h) (λ a g. on-gdsf a e h)) (ltb c.capacity q.size) refl

-- a request that is met drops no old copy
pub meet_drops_none : (p : Policy) (c : Settings) (l : ℕ) (s : Shelf) (t : ℕ) (q : Request) → (meet p c l s t q (get_or s q.file none)).reply.dropped ≡ none
meet_drops_none p c l s t q = meet_by p c l s t q (λ x. x.reply.dropped ≡ none) (λ _. refl) (λ _ _. refl) (λ _ _ _. refl) (λ _ _ _. refl) (get_or s q.file none) refl

-- ---- the old copy: none is kept, or a copy of the size asked for, or one of another size, which goes

module _ (s : Shelf) (file size : ℕ) where
  abbrev pub old : Slot
  old = old_copy size (get_or s file none)

  abbrev pub left : Shelf
  left = drop_old file (old_copy size (get_or s file none)) s

  -- what holds where nothing is dropped and where a copy of another size is holds in any case
  module _ (P : Slot → Shelf → Type 0) (still : P none s) (drops : (r : Kept) → get_or s file none ≡ kept r → (r.size ≡ size → ⊥) → P (kept r) (set s file none)) where
    by_size : (r : Kept) → get_or s file none ≡ kept r → (b : Bool) → eqb r.size size ≡ b → P (pick b none (kept r)) (drop_old file (pick b none (kept r)) s)
    by_size r e true h = still
    by_size r e false h = drops r e (eqb-false _ _ h)

    by_slot : (x : Slot) → get_or s file none ≡ x → P (old_copy size x) (drop_old file (old_copy size x) s)
    by_slot none e = still
    by_slot (kept r) e = by_size r e (eqb r.size size) refl

    pub old_by : P old left
    old_by = by_slot (get_or s file none) refl

  -- whatever is kept afterwards was kept before
  pub left_each : (P : Kept → Type 0) → Each P s → Each P left
  left_each P h = old_by (λ _ u. Each P u) h (λ r e ne. each_set P s file none (λ q z. none_kept z) h)

  pub left_length : length left ≡ length s
  left_length = old_by (λ _ u. length u ≡ length s) refl (λ r e ne. length-set s file none)

  -- what is dropped and what is left weigh what was kept
  pub left_sum : (f : Kept → ℕ) → weigh f old + sum f left ≡ sum f s
  left_sum f = old_by (λ x u. weigh f x + sum f u ≡ sum f s) (omega arith)
      (λ r e ne. let d : sum f (set s file none) + f r ≡ 0 + sum f s = rw e at (sum_set_eq f s file none (kept_lt s file r e)) in omega arith)
