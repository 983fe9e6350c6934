-- What is set aside is what each policy takes. Assumes nothing.
use mathlib.Core.Path.{◌≡◌, refl, sym, ap, ◌∙◌, subst}
use mathlib.Core.Logic.{◌⊎◌, inl, inr, ⊎_elim}
use mathlib.Core.Bool.{Bool, true, false, ◌||◌}
use mathlib.Core.List.{List, [], ◌∷◌}
use Prim.Native.Nat.{ℕ, zero, suc, ◌+◌, ◌≤◌, ◌<◌}
use native.Mathlib.Omega.{arith}
use lib.Dec.{eqb}
use borrow.Author.Tests.{lt-ltb, le-ltb, le-leb, ne_eqb}
use lib.ListN.{length, get_or, set, length-set}
use lib.Seq.{get_or-set_same, get_or-set_other, set_comm}
use Rattle.amounts.specs.Requests.{Request}
use Rattle.amounts.proofs.Tests.{pick_true, pick_false, same, below}
use Rattle.amounts.proofs.Ordering.{not_lower, lower_self}
use Rattle.method.specs.Shelf.{Kept, none, kept, Shelf, bytes, files, NotLower, Found, nothing, at, lowest, Each}
use Rattle.method.specs.Method.{Settings, gds, gdsf, Gone, Wanted, fits, beside, among, next, Cleared, also, clear, goes, served, missed, keyed, newcomer, admit}
use Rattle.method.specs.declared.outcome.Pass.TheVariants.{LowKey}
use Rattle.method.specs.declared.outcome.Outcome.TheVariants.{Admitted, Passed}
use Rattle.method.specs.Promise.{Apart}
use Rattle.method.proofs.Shelves.{Good, none_kept, is_kept, sum_set_eq, sum_none, each_set, kept_lt, lowest_good, lowest_is, not_lower_key}
use Rattle.method.proofs.Room.{clear_stop, clear_more, sum_empty}
use Rattle.method.proofs.Sound.{apart_none, apart_put}
use Rattle.method.proofs.Runs.{goes_here}
use Rattle.shelving.specs.Taking.{Aside, stop, first, aside}

-- ---- one turn

module _ (c : Settings) (z limit n l : ℕ) (s : Shelf) where
  pub aside_fits : fits c (beside z) s ≡ true → aside c z limit (suc n) l s ≡ stop false l s
  unfolding aside
  aside_fits h = pick_true _ _ h

  pub aside_empty : fits c (beside z) s ≡ false → lowest s ≡ nothing → aside c z limit (suc n) l s ≡ stop true l s
  unfolding aside
  aside_empty h e = pick_false _ _ h ∙ rw e

  pub aside_above : (i : ℕ) (r : Kept) → fits c (beside z) s ≡ false → lowest s ≡ at i r → limit < r.key → aside c z limit (suc n) l s ≡ stop true l s
  unfolding aside
  aside_above i r h e g = pick_false _ _ h ∙ rw e (pick_true _ _ (lt-ltb limit r.key g))

  pub aside_more : (i : ℕ) (r : Kept) → fits c (beside z) s ≡ false → lowest s ≡ at i r → r.key ≤ limit
      → aside c z limit (suc n) l s ≡ first i r (aside c z limit n r.key (set s i none))
  unfolding aside
  aside_more i r h e g = pick_false _ _ h ∙ rw e (pick_false _ _ (le-ltb limit r.key g))

-- the next to go, by whether it fits
next_fits : (c : Settings) (e : Wanted) (s : Shelf) → fits c e s ≡ true → next c e s ≡ nothing
next_fits c e s h = pick_true _ _ h

next_full : (c : Settings) (e : Wanted) (s : Shelf) → fits c e s ≡ false → next c e s ≡ lowest s
next_full c e s h = pick_false _ _ h

-- cases on a test
pub test : (b : Bool) → (b ≡ true) ⊎ (b ≡ false)
test true = inl refl
test false = inr refl

-- a shelf with a file less
pub fewer : (s : Shelf) (i : ℕ) (r : Kept) → get_or s i none ≡ kept r → files (set s i none) + 1 ≡ files s
fewer s i r h =
    let d : files (set s i none) + 1 ≡ 0 + files s = rw h at (sum_set_eq (λ r. 1) s i none (kept_lt s i r h)) in
    omega arith

-- an empty shelf has room for what is not above the capacity
pub empty_fits : (c : Settings) (z : ℕ) (s : Shelf) → z ≤ c.capacity → 1 ≤ c.places → files s ≤ 0 → fits c (beside z) s ≡ true
empty_fits c z s a b h =
    let y : bytes s ≡ 0 = sum_none (λ r. r.size) s h in
    let f : files s ≡ 0 = omega arith in
    rw (y, f, le-leb (0 + z) c.capacity (omega arith), le-leb (0 + 1) c.places (omega arith))

-- the lowest file is kept, and none is lower
lowest_there : (s : Shelf) (i : ℕ) (r : Kept) → lowest s ≡ at i r → Good s (at i r)
lowest_there s i r e = subst (Good s) e (lowest_good s)

-- where it does not fit, there is a lowest file
pub full_lowest : (c : Settings) (z : ℕ) (s : Shelf) → z ≤ c.capacity → 1 ≤ c.places → fits c (beside z) s ≡ false → lowest s ≡ nothing → ⊥
full_lowest c z s a b h e =
    let g : Each (λ q. ⊥) s = subst (Good s) e (lowest_good s) in
    let t : fits c (beside z) s ≡ true = empty_fits c z s a b (omega (arith, sum_empty (λ r. 1) s g)) in
    let x : true ≡ false = sym t ∙ h in
    let k : ◌≡◌ {A = ℕ} 0 1 = cc in omega arith

-- ---- all turns

-- what holds of what is set aside in n turns from inflation l and the shelf s, if it holds where it stops and each turn keeps it
pub record Turns (c : Settings) (z limit : ℕ) (P : ℕ → ℕ → Shelf → Aside → Type 0) : Type 0 where
  pub start : (l : ℕ) (s : Shelf) → P 0 l s (stop false l s)
  pub fitting : (n l : ℕ) (s : Shelf) → fits c (beside z) s ≡ true → P (suc n) l s (stop false l s)
  pub empty : (n l : ℕ) (s : Shelf) → fits c (beside z) s ≡ false → lowest s ≡ nothing → P (suc n) l s (stop true l s)
  pub above : (n l : ℕ) (s : Shelf) (i : ℕ) (r : Kept) → fits c (beside z) s ≡ false → lowest s ≡ at i r → limit < r.key → P (suc n) l s (stop true l s)
  pub onward : (n l : ℕ) (s : Shelf) (i : ℕ) (r : Kept) (y : Aside) → fits c (beside z) s ≡ false → lowest s ≡ at i r → r.key ≤ limit → P n r.key (set s i none) y
      → P (suc n) l s (first i r y)

module _ (c : Settings) (z limit : ℕ) (P : ℕ → ℕ → Shelf → Aside → Type 0) (t : Turns c z limit P) where
  turn : (n l : ℕ) (s : Shelf) → ((l : ℕ) (s : Shelf) → P n l s (aside c z limit n l s)) → fits c (beside z) s ≡ false → (f : Found) → lowest s ≡ f
      → P (suc n) l s (aside c z limit (suc n) l s)
  turn n l s ih u nothing e = rw (aside_empty c z limit n l s u e) (t.empty n l s u e)
  turn n l s ih u (at i r) e =
      ⊎_elim
      (λ a. rw (aside_above c z limit n l s i r u e a) (t.above n l s i r u e a))
      (λ a. rw (aside_more c z limit n l s i r u e a) (t.onward n l s i r _ u e a (ih r.key (set s i none))))
      (below limit r.key)

  pub by_turns : (n l : ℕ) (s : Shelf) → P n l s (aside c z limit n l s)
  unfolding aside
  by_turns zero l s = t.start l s
  by_turns (suc n) l s =
      ⊎_elim
      (λ u. rw (aside_fits c z limit n l s u) (t.fitting n l s u))
      (λ u. turn n l s (λ l s. by_turns n l s) u (lowest s) refl)
      (test (fits c (beside z) s))

-- ---- policy 1: the limit is above every key

pub record Same (x : Aside) (y : Cleared) : Type 0 where
  pub low : x.low ≡ false
  pub inflation : x.inflation ≡ y.inflation
  pub shelf : x.shelf ≡ y.shelf
  pub gone : x.gone ≡ y.taken

same_first : (i : ℕ) (r : Kept) (x : Aside) (y : Cleared) → Same x y → Same (first i r x) (also i r y)
same_first i r x y h = record { low = h.low; inflation = h.inflation; shelf = h.shelf; gone = ap (λ (gs : List Gone). record { file = i; was = r } ∷ gs) h.gone }

same_stop : (l : ℕ) (s : Shelf) → Same (stop false l s) (record { inflation = l; shelf = s; taken = [] })
same_stop l s = record { low = refl; inflation = refl; shelf = refl; gone = refl }

module _ (c : Settings) (z limit : ℕ) (small : z ≤ c.capacity) (one : 1 ≤ c.places) where
  clear_turns : Turns c z limit (λ n l s y. Each (λ q. q.key ≤ limit) s → Same y (clear c (beside z) n l s))
  unfolding clear
  clear_turns =
      record {
        start = λ l s h. same_stop l s;
        fitting = λ n l s u h. rw (clear_stop c (beside z) n l s (next_fits c (beside z) s u)) (same_stop l s);
        empty = λ n l s u e h. absurd (full_lowest c z s small one u e);
        above = λ n l s i r u e a h. absurd (omega (arith, h i r (lowest_there s i r e).0));
        onward = λ n l s i r y u e a ih h.
            rw (clear_more c (beside z) n l s i r (next_full c (beside z) s u ∙ e)) (same_first i r _ _ (ih (each_set _ s i none (λ q w. none_kept w) h)));
      }

  pub aside_clear : (n l : ℕ) (s : Shelf) → Each (λ q. q.key ≤ limit) s → Same (aside c z limit n l s) (clear c (beside z) n l s)
  aside_clear n l s h = by_turns c z limit _ clear_turns n l s h

-- ---- policy 2: the limit is the newcomer's key

-- the newcomer k is to stand in the free slot f, with the newest stamp
pub record Newest (f : ℕ) (k : Kept) (s : Shelf) : Type 0 where
  pub inside : f < length s
  pub free : get_or s f none ≡ none
  pub stamps : Each (λ q. q.stamp < k.stamp) s
  pub apart : Apart s

module _ (c : Settings) (f : ℕ) (k : Kept) where
  with_fits : (s : Shelf) → Newest f k s → fits c among (set s f (kept k)) ≡ fits c (beside k.size) s
  with_fits s h =
      let b : bytes (set s f (kept k)) + 0 ≡ k.size + bytes s = rw h.free at (sum_set_eq (λ r. r.size) s f (kept k) h.inside) in
      let n : files (set s f (kept k)) + 0 ≡ 1 + files s = rw h.free at (sum_set_eq (λ r. 1) s f (kept k) h.inside) in
      let b' : bytes (set s f (kept k)) + 0 ≡ bytes s + k.size = omega arith in
      let n' : files (set s f (kept k)) + 0 ≡ files s + 1 = omega arith in
      rw (b', n')

  -- a kept file stands in another slot
  other : (s : Shelf) → Newest f k s → (i : ℕ) (r : Kept) → get_or s i none ≡ kept r → i ≡ f → ⊥
  other s h i r e q = none_kept {q = r} (sym h.free ∙ ap (λ (j : ℕ). get_or s j none) (sym q) ∙ e)

  with_apart : (s : Shelf) → Newest f k s → Apart (set s f (kept k))
  with_apart s h = apart_put s f k h.stamps h.apart

  -- what is not lower than r, among the files and the newcomer
  with_each : (s : Shelf) (r : Kept) → NotLower k r → Each (λ q. NotLower q r) s → Each (λ q. NotLower q r) (set s f (kept k))
  with_each s r a h = each_set _ s f (kept k) (is_kept (λ q. NotLower q r) k a) h

  -- the newcomer is lowest where no file has a key that is not above its own
  with_newcomer : (s : Shelf) → Newest f k s → Each (λ q. k.key < q.key) s → lowest (set s f (kept k)) ≡ at f k
  with_newcomer s h a =
      lowest_is (set s f (kept k)) f k (with_apart s h)
      (get_or-set_same s f (kept k) none h.inside, with_each s k (lower_self k.key k.stamp) (λ j q e. not_lower q.key q.stamp k.key k.stamp (inl (a j q e))))

  -- else the lowest file is
  with_lowest : (s : Shelf) → Newest f k s → (i : ℕ) (r : Kept) → Good s (at i r) → r.key ≤ k.key → lowest (set s f (kept k)) ≡ at i r
  with_lowest s h i r g b =
      lowest_is (set s f (kept k)) i r (with_apart s h) (
        get_or-set_other s f i (kept k) none (other s h i r g.0) ∙ g.0,
        with_each s r (not_lower k.key k.stamp r.key r.stamp (⊎_elim (λ e. inr (sym e, omega (arith, h.stamps i r g.0))) (λ ne. inl (omega arith)) (same r.key k.key))) g.1,
      )

  newest_less : (s : Shelf) → Newest f k s → (i : ℕ) (r : Kept) → get_or s i none ≡ kept r → Newest f k (set s i none)
  newest_less s h i r e =
      record {
        inside = simp length-set h.inside;
        free = get_or-set_other s i f none none (λ q. other s h i r e (sym q)) ∙ h.free;
        stamps = each_set _ s i none (λ q w. none_kept w) h.stamps;
        apart = apart_none s i h.apart;
      }

  -- one file less, with the newcomer
  less_with : (s : Shelf) → Newest f k s → (i : ℕ) (r : Kept) → get_or s i none ≡ kept r → set (set s f (kept k)) i none ≡ set (set s i none) f (kept k)
  less_with s h i r e = set_comm s f i (kept k) none (λ q. other s h i r e (sym q))

  -- what the policy clears, from what is set aside
  abbrev pub with_new : Aside → Cleared
  with_new x = record { inflation = x.inflation; shelf = set x.shelf f (kept k); taken = x.gone }

  -- where the newcomer is not taken the policy clears what is set aside, and where it is it is among those that the policy takes
  pub record Same₂ (x : Aside) (y : Cleared) : Type 0 where
    pub kept : x.low ≡ false → y ≡ with_new x
    pub low : x.low ≡ true → goes f y.taken ≡ true
    pub stays : goes f x.gone ≡ false

  stopped : (l : ℕ) (s : Shelf) → Same₂ (stop false l s) (record { inflation = l; shelf = set s f (kept k); taken = [] })
  stopped l s = record { kept = λ _. refl; low = λ e. let z : ◌≡◌ {A = ℕ} 0 1 = cc in absurd (omega arith); stays = refl }

  -- the newcomer is taken
  taken : (l : ℕ) (s : Shelf) (y : Cleared) → Same₂ (stop true l s) (also f k y)
  taken l s y = record { kept = λ e. let z : ◌≡◌ {A = ℕ} 0 1 = cc in absurd (omega arith); low = λ _. goes_here f k y.taken; stays = refl }

  or_right : (a b : Bool) → b ≡ true → (a || b) ≡ true
  or_right true b e = refl
  or_right false b e = e

  more : (i : ℕ) (r : Kept) → (i ≡ f → ⊥) → (x : Aside) (y : Cleared) → Same₂ x y → Same₂ (first i r x) (also i r y)
  more i r ne x y h =
      record {
        kept = λ e. ap (also i r) (h.kept e);
        low = λ e. or_right (eqb f i) (goes f y.taken) (h.low e);
        stays = rw (ne_eqb f i (λ q. ne (sym q))) h.stays;
      }

  module _ (small : k.size ≤ c.capacity) (one : 1 ≤ c.places) where
    with_turns : Turns c k.size k.key (λ n l s y. Newest f k s → Same₂ y (clear c among n l (set s f (kept k))))
    unfolding clear
    with_turns =
        record {
          start = λ l s h. stopped l s;
          fitting = λ n l s u h. rw (clear_stop c among n l (set s f (kept k)) (next_fits c among (set s f (kept k)) (with_fits s h ∙ u))) (stopped l s);
          empty = λ n l s u e h. absurd (full_lowest c k.size s small one u e);
          above = λ n l s i r u e b h.
              let all = with_newcomer s h (λ j q w. omega (arith, not_lower_key r q ((lowest_there s i r e).1 j q w))) in
              rw (clear_more c among n l (set s f (kept k)) f k (next_full c among (set s f (kept k)) (with_fits s h ∙ u) ∙ all)) (taken l s _);
          onward = λ n l s i r y u e b ih h.
              let g = lowest_there s i r e in
              rw (clear_more c among n l (set s f (kept k)) i r (next_full c among (set s f (kept k)) (with_fits s h ∙ u) ∙ with_lowest s h i r g b), less_with s h i r g.0)
              (more i r (other s h i r g.0) _ _ (ih (newest_less s h i r g.0)));
        }

    pub aside_with : (n l : ℕ) (s : Shelf) → Newest f k s → Same₂ (aside c k.size k.key n l s) (clear c among n l (set s f (kept k)))
    aside_with n l s h = by_turns c k.size k.key _ with_turns n l s h

-- ---- the admission of each policy, from what is set aside

module _ (c : Settings) (l : ℕ) (s : Shelf) (t : ℕ) (q : Request) (small : q.size ≤ c.capacity) (one : 1 ≤ c.places) where
  pub admit₁ : (limit : ℕ) → Each (λ r. r.key ≤ limit) s
      → ((aside c q.size limit (length s) l s).low ≡ false)
      × (let x = aside c q.size limit (length s) l s in
      admit gds c l s t q ≡ served x.inflation (set x.shelf q.file (newcomer x.inflation q t)) t (missed q x.gone Admitted))
  unfolding admit
  admit₁ limit h =
      let x : Aside = aside c q.size limit (length s) l s in
      let a : Same x (clear c (beside q.size) (length s) l s) = aside_clear c q.size limit small one (length s) l s h in
      (a.low, rw (a.inflation, a.shelf, a.gone))

  pub admit₂ : Newest q.file (keyed l q.size q.cost 1 t) s
      → let x = aside c q.size (keyed l q.size q.cost 1 t).key (length s) l s in
      (x.low ≡ false → admit gdsf c l s t q ≡ served x.inflation (set x.shelf q.file (newcomer l q t)) t (missed q x.gone Admitted))
      × (x.low ≡ true → admit gdsf c l s t q ≡ served l s t (missed q [] (Passed LowKey)))
  unfolding admit
  admit₂ h =
      let k : Kept = keyed l q.size q.cost 1 t in
      let x : Aside = aside c q.size k.key (length s) l s in
      let a : Same₂ c q.file k x (clear c among (length s) l (set s q.file (kept k))) = aside_with c q.file k small one (length s) l s h in
      ((λ e. rw (a.kept e) (rw a.stays)), (λ e. rw (a.low e)))
