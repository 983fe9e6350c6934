-- A request for a file that is kept, by its size: a recut, and a repeat. Assumes nothing.
use mathlib.Core.Path.{◌≡◌, refl}
use mathlib.Core.Logic.{⊎_elim}
use mathlib.Core.List.{List, [], ◌∷◌}
use Prim.Native.Nat.{ℕ, zero, suc}
use native.Mathlib.Omega.{arith}
use lib.ListN.{length, get_or, set}
use borrow.Author.Tests.{eq-eqb, ne_eqb}
use Rattle.amounts.specs.Requests.{Request, resolved}
use Rattle.method.specs.Shelf.{Kept, none, kept, Shelf, Found, nothing, at}
use Rattle.method.specs.Method.{Policy, Settings, Wanted, Gone, next, beside, among, Cleared, clear, State, served, missed, newcomer, meet, dropping, step}
use Rattle.method.specs.Recut.{Recut, Recuts, Repeats}
use Rattle.method.specs.declared.outcome.Pass.{Pass}
use Rattle.method.specs.declared.outcome.Outcome.{Outcome}
use Rattle.method.specs.declared.outcome.Outcome.TheVariants.{Hit, Admitted, Passed}
use Rattle.method.proofs.Shelves.{Good, none_kept, is_kept, at_set}
use Rattle.method.proofs.Room.{clear_stop, clear_more, clear_keeps}
use Rattle.method.proofs.Cases.{room₁, admitted₁, admitted₂, meet_by}

-- ---- outcomes differ

pass_no_hit : {w : Pass} → ◌≡◌ {A = Outcome} (Passed w) Hit → ⊥
pass_no_hit e = let z : ◌≡◌ {A = ℕ} 0 1 = cc in absurd (omega arith)

admit_no_hit : ◌≡◌ {A = Outcome} Admitted Hit → ⊥
admit_no_hit e = let z : ◌≡◌ {A = ℕ} 0 1 = cc in absurd (omega arith)

admit_no_pass : {A : Type 0} {w : Pass} → ◌≡◌ {A = Outcome} Admitted (Passed w) → A
admit_no_pass e = let z : ◌≡◌ {A = ℕ} 0 1 = cc in absurd (omega arith)

-- ---- room made: without an eviction L stays

none_taken : {A : Type 0} {g : Gone} {gs : List Gone} → g ∷ gs ≡ [] → A
none_taken e = let z : ◌≡◌ {A = ℕ} 0 1 = cc in absurd (omega arith)

still_turn : (c : Settings) (e : Wanted) (n l : ℕ) (s : Shelf) (f : Found) → next c e s ≡ f → (clear c e (suc n) l s).taken ≡ [] → (clear c e (suc n) l s).inflation ≡ l
still_turn c e n l s nothing p h = rw (clear_stop c e n l s p)
still_turn c e n l s (at i r) p h = none_taken (rw (clear_more c e n l s i r p) at h)

clear_still : (c : Settings) (e : Wanted) (n l : ℕ) (s : Shelf) → (clear c e n l s).taken ≡ [] → (clear c e n l s).inflation ≡ l
unfolding clear
clear_still c e zero l s h = refl
clear_still c e (suc n) l s h = still_turn c e n l s (next c e s) refl h

-- ---- an empty slot

slot_gone : (s : Shelf) (i : ℕ) → get_or (set s i none) i none ≡ none
slot_gone [] i = refl
slot_gone (x ∷ s) zero = refl
slot_gone (x ∷ s) (suc i) = slot_gone s i

-- what is kept of the file was asked for by the request q, with frequency 1
abbrev Anew : Request → ℕ → Shelf → Type 0
Anew q l s = (k : Kept) → get_or s q.file none ≡ kept k → (k.freq ≡ 1) × (k.size ≡ q.size)

anew_none : (q : Request) (l : ℕ) (s : Shelf) → get_or s q.file none ≡ none → Anew q l s
anew_none q l s out k e = none_kept (rw out at e)

anew_put : (q : Request) (l m t : ℕ) (s : Shelf) → Anew q l s → Anew q m (set s q.file (newcomer m q t))
anew_put q l m t s h k e =
    ⊎_elim (λ z. is_kept (λ k. (k.freq ≡ 1) × (k.size ≡ q.size)) _ (refl, refl) k z.1) (λ z. h k z) (at_set s q.file (newcomer m q t) q.file k e)

anew_turn : (q : Request) (l : ℕ) (s : Shelf) (i : ℕ) (r : Kept) → Anew q l s → Good s (at i r) → Anew q r.key (set s i none)
anew_turn q l s i r h g k e = ⊎_elim (λ z. none_kept z.1) (λ z. h k z) (at_set s i none q.file k e)

anew_clear : (c : Settings) (e : Wanted) (q : Request) (n l : ℕ) (s : Shelf) → Anew q l s → Anew q (clear c e n l s).inflation (clear c e n l s).shelf
anew_clear c e q n l s h = clear_keeps c e (Anew q) (anew_turn q) n l s h

-- ---- a recut, from the shelf that the old copy left

module _ (c : Settings) (st : State) (q : Request) (r : Kept) (u : Shelf) (out : get_or u q.file none ≡ none) where
  abbrev l : ℕ
  l = st.inflation

  passes : (w : Pass) → Recut st q r (dropping (kept r) (served l u st.stamp (missed (resolved q) [] (Passed w))))
  passes w = record { dropped = refl; missed = pass_no_hit; anew = anew_none q l u out; gone = λ _ _. out; still = λ _. refl }

  admits₁ : Recut st q r (dropping (kept r) (admitted₁ c l u st.stamp (resolved q)))
  admits₁ =
      let e : Wanted = beside q.size in
      let x : Cleared = room₁ c l u (resolved q) in
      record {
        dropped = refl;
        missed = admit_no_hit;
        anew = anew_put (resolved q) x.inflation x.inflation st.stamp x.shelf (anew_clear c e (resolved q) (length u) l u (anew_none (resolved q) l u out));
        gone = λ w z. admit_no_pass z;
        still = clear_still c e (length u) l u;
      }

  admits₂ : Recut st q r (dropping (kept r) (admitted₂ c l u st.stamp (resolved q)))
  admits₂ =
      let s : Shelf = set u q.file (newcomer l (resolved q) st.stamp) in
      record {
        dropped = refl;
        missed = admit_no_hit;
        anew = anew_clear c among (resolved q) (length u) l s (anew_put (resolved q) l l st.stamp u (anew_none (resolved q) l u out));
        gone = λ w z. admit_no_pass z;
        still = clear_still c among (length u) l s;
      }

  recut_met : (p : Policy) → Recut st q r (dropping (kept r) (meet p c l u st.stamp (resolved q) (get_or u q.file none)))
  recut_met p =
      meet_by p c l u st.stamp (resolved q) (λ x. Recut st q r (dropping (kept r) x)) passes (λ k e. none_kept (rw out at e)) (λ _ _ _. admits₁) (λ _ _ _. admits₂)
      (get_or u q.file none) refl

pub recuts : Recuts
unfolding step
recuts p c st q r e ne = rw (e, ne_eqb r.size q.size ne) (recut_met c st q r (set st.shelf q.file none) (slot_gone st.shelf q.file) p)

pub repeats : Repeats
unfolding step
repeats p c st q r e same = rw (e, eq-eqb r.size q.size same, e) refl
