-- Lifts: what one request adds to inflation, and that what is left less the lifts is small. Assumes nothing.
use mathlib.Core.Path.{◌≡◌, refl}
use mathlib.Core.List.{List, [], ◌∷◌, ◌++◌}
use mathlib.Core.Logic.{⊎_elim}
use Prim.Native.Nat.{ℕ, suc, ◌+◌, ◌*◌, ◌≤◌, ◌<◌}
use native.Mathlib.Omega.{arith}
use borrow.Author.Tests.{le-leb, lt-leb}
use lib.ListN.{length, get_or, set}
use Rattle.amounts.specs.Limits.{lift, word}
use Rattle.amounts.specs.Worth.{Valued}
use Rattle.amounts.specs.Requests.{Request, resolved, Ranged, AllRanged}
use Rattle.amounts.proofs.Tests.{below, pick_true, pick_false}
use Rattle.amounts.proofs.Values.{product_lift}
use Rattle.method.specs.Shelf.{Kept, none, kept, Shelf, at, Each}
use Rattle.method.specs.Method.{Policy, Settings, Wanted, beside, among, clear, State, Served, keyed, meet, step, run}
use Rattle.method.specs.Whole.{lifted, lifts_of}
use Rattle.method.specs.Promise.{Sound, SoundAt, Small}
use Rattle.method.proofs.Shelves.{Good, none_kept, is_kept, each_set}
use Rattle.method.proofs.Room.{clear_keeps}
use Rattle.method.proofs.Cases.{admitted₁, admitted₂, meet_by, left}
use Rattle.method.proofs.Sound.{resolved_valued, left_sound, step_sound}

-- inflation and every key from a up to b
abbrev Between : ℕ → ℕ → ℕ → Shelf → Type 0
Between a b l s = (a ≤ l) × (l < b) × Each (λ r. (a ≤ r.key) × (r.key < b)) s

between_step : (a b l : ℕ) (s : Shelf) (i : ℕ) (r : Kept) → Between a b l s → Good s (at i r) → Between a b r.key (set s i none)
between_step a b l s i r h g = ((h.2 i r g.0).0, (h.2 i r g.0).1, each_set _ s i none (λ q z. none_kept z) h.2)

between_clear : (c : Settings) (e : Wanted) (n a b l : ℕ) (s : Shelf) → Between a b l s → Between a b (clear c e n l s).inflation (clear c e n l s).shelf
between_clear c e n a b l s h = clear_keeps c e (Between a b) (between_step a b) n l s h

-- inflation rises from l by less than one lift
pub record Rises (l k : ℕ) : Type 0 where
  pub least : l ≤ k
  pub most : k < l + lift

module _ (p : Policy) (c : Settings) (l : ℕ) (s : Shelf) (t n : ℕ) (h : Sound p c l s t n) where
  -- every key is less than one lift above inflation
  pub keys_rise : Each (λ r. (l ≤ r.key) × (r.key < l + lift)) s
  keys_rise i r e = ((h.keys i r e).0, omega (arith, h.keys i r e, product_lift r.freq r.size r.cost (h.fine i r e).valued (h.fine i r e).seldom))

  -- so a word has them, where inflation is below three lifts
  pub keys_fit : l < 3 * lift → Each (λ r. r.key < word) s
  keys_fit b i r e = omega (arith, keys_rise i r e)

  module _ (q : Request) (v : Valued q.size q.cost) where
    rises₁ : Rises l (admitted₁ c l s t q).state.inflation
    rises₁ =
        let x = between_clear c (beside q.size) (length s) l (l + lift) l s (omega arith, omega arith, keys_rise) in
        record { least = x.0; most = x.1 }

    rises₂ : Rises l (admitted₂ c l s t q).state.inflation
    rises₂ =
        let r : Kept = keyed l q.size q.cost 1 t in
        let new : r.key < l + lift = omega (arith, product_lift 1 q.size q.cost v (omega arith)) in
        let x = between_clear c among (length s) l (l + lift) l (set s q.file (kept r))
        (omega arith, omega arith, each_set _ s q.file (kept r) (is_kept (λ x. (l ≤ x.key) × (x.key < l + lift)) r (omega arith, new)) keys_rise) in
        record { least = x.0; most = x.1 }

-- one request adds less than one lift to inflation
pub meet_rises : (p : Policy) (c : Settings) (l : ℕ) (s : Shelf) (t n : ℕ) → Sound p c l s t n → (q : Request) → Valued q.size q.cost
    → Rises l (meet p c l s t q (get_or s q.file none)).state.inflation
meet_rises p c l s t n h q v =
    meet_by p c l s t q (λ x. Rises l x.state.inflation) (λ _. record { least = omega arith; most = omega arith }) (λ _ _. record { least = omega arith; most = omega arith })
    (λ _ _ _. rises₁ p c l s t n h q v) (λ _ _ _. rises₂ p c l s t n h q v) (get_or s q.file none) refl

pub step_rises : (p : Policy) (c : Settings) (st : State) (n : ℕ) → SoundAt p c st n → (q : Request) → Ranged c.catalogue q → Rises st.inflation (step p c st q).state.inflation
unfolding step
step_rises p c st n h q w =
    meet_rises p c st.inflation (left st.shelf q.file q.size) st.stamp n (left_sound p c st n h q) (resolved q) (resolved_valued c.catalogue q w)

-- the lifts are never more than inflation has, and what is left is below two lifts
pub record Split (lifts l : ℕ) : Type 0 where
  pub taken : lifts * lift ≤ l
  pub left : l < (lifts + 2) * lift

-- before a request: what is left is below one lift
pub record Ready (lifts l : ℕ) : Type 0 where
  pub taken : lifts * lift ≤ l
  pub left : l < (lifts + 1) * lift

-- the lifts before a request, by what is left of inflation
pub lifted_still : (lifts l : ℕ) → l < (lifts + 1) * lift → lifted lifts l ≡ lifts
unfolding lifted
lifted_still lifts l h = pick_false (lifts + 1) lifts (lt-leb ((lifts + 1) * lift) l h)

pub lifted_more : (lifts l : ℕ) → (lifts + 1) * lift ≤ l → lifted lifts l ≡ lifts + 1
unfolding lifted
lifted_more lifts l h = pick_true (lifts + 1) lifts (le-leb ((lifts + 1) * lift) l h)

lifted_ready : (lifts l : ℕ) → Split lifts l → Ready (lifted lifts l) l
lifted_ready lifts l h =
    ⊎_elim (λ b. rw (lifted_still lifts l b) (record { taken = h.taken; left = b }))
    (λ b. rw (lifted_more lifts l b) (record { taken = b; left = omega (arith, h.left) })) (below l ((lifts + 1) * lift))

-- so that after it what is left is below two
ready_split : (lifts l k : ℕ) → Ready lifts l → Rises l k → Split lifts k
ready_split lifts l k h r = record { taken = omega (arith, h.taken, r.least); left = omega (arith, h.left, r.most) }

pub run_split : (p : Policy) (c : Settings) → 1 ≤ c.places → (lifts : ℕ) (st : State) (n : ℕ) → SoundAt p c st n → Split lifts st.inflation → (qs : List Request) → AllRanged c.catalogue qs
    → Split (lifts_of (step p c) lifts st qs) (run (step p c) st qs).state.inflation
unfolding run lifts_of
run_split p c one lifts st n h s [] v = s
run_split p c one lifts st n h s (q ∷ qs) v =
    run_split p c one (lifted lifts st.inflation) (step p c st q).state (suc n) (step_sound p c one st n h q v.0)
    (ready_split (lifted lifts st.inflation) st.inflation (step p c st q).state.inflation (lifted_ready lifts st.inflation s) (step_rises p c st n h q v.0)) qs v.1

-- the lifts of a run in two parts
pub lifts_append : (f : State → Request → Served State) (n : ℕ) (st : State) (qs ps : List Request) → lifts_of f n st (qs ++ ps) ≡ lifts_of f (lifts_of f n st qs) (run f st qs).state ps
unfolding lifts_of run
lifts_append f n st [] ps = refl
lifts_append f n st (q ∷ qs) ps = lifts_append f (lifted n st.inflation) (f st q).state qs ps

-- nothing overflows
pub sound_small : (p : Policy) (c : Settings) (lifts : ℕ) (st : State) (n : ℕ) → SoundAt p c st n → Split lifts st.inflation → Small lifts st
sound_small p c lifts st n h s = record {
  taken = s.taken;
  inflation = s.left;
  keys = λ i r e. omega (arith, s.left, keys_rise p c st.inflation st.shelf st.stamp n h i r e);
}
