-- Inflation and every key raised by the same amount: the run is the same but for that. Assumes nothing.
use mathlib.Core.Path.{◌≡◌, refl, sym, ap, ◌∙◌, subst}
use mathlib.Core.Bool.{Bool, true, false}
use mathlib.Core.List.{List, [], ◌∷◌, map}
use Prim.Native.Nat.{ℕ, zero, suc, ◌+◌, ◌-◌, ◌*◌, ◌≤◌, ◌<◌}
use native.Mathlib.Omega.{arith}
use lib.Dec.{ltb, eqb}
use borrow.Author.Tests.{ltb-true, ltb-false, eqb-true, eqb-false, lt-ltb, le-ltb, eq-eqb, ne_eqb}
use lib.ListN.{length, get_or, set, replicate, length-map, get_or-map}
use Rattle.amounts.specs.Limits.{pick}
use Rattle.amounts.specs.Worth.{product_of, worth_most}
use Rattle.amounts.specs.Order.{lower_of}
use Rattle.amounts.specs.Requests.{Request, resolved}
use Rattle.method.specs.Shelf.{Kept, Slot, none, kept, Shelf, sum, product, Found, nothing, at, lower, lowest}
use Rattle.method.specs.Method.{Policy, gds, gdsf, Settings, Gone, Served, Wanted, fits, next, beside, among, Cleared, also, clear}
use Rattle.method.specs.Method.{State, served, missed, keyed, newcomer, again, goes, settle, admit, meet, old_copy, drop_old, dropping, step, after, run}
use Rattle.method.specs.Whole.{higher, raise, whole, whole_gone, whole_reply, whole_served, whole_run}
use Rattle.method.specs.Credit.{less}
use Rattle.method.specs.Promise.{Fine, SoundAt}
use Rattle.method.specs.declared.outcome.Pass.TheVariants.{TooBig}
use Rattle.method.specs.declared.outcome.Outcome.TheVariants.{Hit, Admitted, Passed}
use Rattle.method.proofs.Shelves.{none_kept}
use Rattle.method.proofs.Room.{clear_stop, clear_more}

abbrev pub raise_f : ℕ → Found → Found
raise_f l nothing = nothing
raise_f l (at i r) = at i (higher l r)

pub ltb_add : (l a b : ℕ) → ltb (l + a) (l + b) ≡ ltb a b
ltb_add l a b = go (ltb a b) refl
  where
    go : (t : Bool) → ltb a b ≡ t → ltb (l + a) (l + b) ≡ t
    go true e = lt-ltb (l + a) (l + b) (omega (arith, ltb-true a b e))
    go false e = le-ltb (l + a) (l + b) (omega (arith, ltb-false a b e))

pub eqb_add : (l a b : ℕ) → eqb (l + a) (l + b) ≡ eqb a b
eqb_add l a b = go (eqb a b) refl
  where
    go : (t : Bool) → eqb a b ≡ t → eqb (l + a) (l + b) ≡ t
    go true e = eq-eqb (l + a) (l + b) (omega (arith, eqb-true a b e))
    go false e = ne_eqb (l + a) (l + b) (λ h. eqb-false a b e (omega arith))

pub lower_add : (l a b c d : ℕ) → lower_of (l + a) b (l + c) d ≡ lower_of a b c d
unfolding lower_of
lower_add l a b c d = rw (ltb_add, eqb_add)

pub lower_raise : (l : ℕ) (x : Slot) (f : Found) → lower (raise l x) (raise_f l f) ≡ raise_f l (lower x f)
lower_raise l none nothing = refl
lower_raise l none (at i q) = refl
lower_raise l (kept r) nothing = refl
lower_raise l (kept r) (at i q) = rw (lower_add l q.key q.stamp r.key r.stamp) (go (lower_of q.key q.stamp r.key r.stamp))
  where
    go : (b : Bool) → ◌≡◌ {A = Found} (pick b (at (suc i) (higher l q)) (at 0 (higher l r))) (raise_f l (pick b (at (suc i) q) (at 0 r)))
    go true = refl
    go false = refl

pub lowest_raise : (l : ℕ) (s : Shelf) → lowest (map (raise l) s) ≡ raise_f l (lowest s)
unfolding lowest
lowest_raise l [] = refl
lowest_raise l (x ∷ s) = rw (lowest_raise l s) (lower_raise l x (lowest s))

pub sum_raise : (f : Kept → ℕ) (l : ℕ) → ((r : Kept) → f (higher l r) ≡ f r) → (s : Shelf) → sum f (map (raise l) s) ≡ sum f s
unfolding sum
sum_raise f l h [] = refl
sum_raise f l h (none ∷ s) = rw (sum_raise f l h s)
sum_raise f l h (kept r ∷ s) = rw (sum_raise f l h s, h r)

pub fits_raise : (c : Settings) (e : Wanted) (l : ℕ) (s : Shelf) → fits c e (map (raise l) s) ≡ fits c e s
fits_raise c e l s = rw (sum_raise (λ r. r.size) l (λ r. refl) s, sum_raise (λ r. 1) l (λ r. refl) s)

pub next_raise : (c : Settings) (e : Wanted) (l : ℕ) (s : Shelf) → next c e (map (raise l) s) ≡ raise_f l (next c e s)
next_raise c e l s = rw (fits_raise c e l s) (go (fits c e s))
  where
    go : (b : Bool) → ◌≡◌ {A = Found} (pick b nothing (lowest (map (raise l) s))) (raise_f l (pick b nothing (lowest s)))
    go true = refl
    go false = lowest_raise l s

-- ---- a change

pub raise_set : (l : ℕ) (s : Shelf) (i : ℕ) (x : Slot) → set (map (raise l) s) i (raise l x) ≡ map (raise l) (set s i x)
raise_set l [] i x = refl
raise_set l (y ∷ s) zero x = refl
raise_set l (y ∷ s) (suc i) x = rw (raise_set l s i x)

-- nothing kept, nothing raised
pub raise_none : (l n : ℕ) → map (raise l) (replicate n none) ≡ replicate n none
raise_none l zero = refl
raise_none l (suc n) = rw (raise_none l n)

-- what is put back can be taken off again
pub less_raise : (l : ℕ) (s : Shelf) → map (less l) (map (raise l) s) ≡ s
less_raise l [] = refl
less_raise l (none ∷ s) = rw (less_raise l s)
less_raise l (kept r ∷ s) = let e : l + r.key - l ≡ r.key = omega arith in rw (less_raise l s, e)

-- the old copy of a file is the same but for its key, and what is left without it
pub old_raise : (l size : ℕ) (x : Slot) → old_copy size (raise l x) ≡ raise l (old_copy size x)
old_raise l size none = refl
old_raise l size (kept r) = go (eqb r.size size)
  where
    go : (b : Bool) → ◌≡◌ {A = Slot} (pick b none (kept (higher l r))) (raise l (pick b none (kept r)))
    go true = refl
    go false = refl

pub drop_raise : (l file : ℕ) (s : Shelf) (x : Slot) → drop_old file (raise l x) (map (raise l) s) ≡ map (raise l) (drop_old file x s)
drop_raise l file s none = refl
drop_raise l file s (kept r) = raise_set l s file none

-- ---- making room

abbrev raise_c : ℕ → Cleared → Cleared
raise_c d x = record { inflation = d + x.inflation; shelf = map (raise d) x.shelf; taken = map (whole_gone d) x.taken }

clear_turn : (c : Settings) (e : Wanted) (n d : ℕ) → ((l : ℕ) (s : Shelf) → clear c e n (d + l) (map (raise d) s) ≡ raise_c d (clear c e n l s))
    → (l : ℕ) (s : Shelf) (f : Found) → next c e s ≡ f → clear c e (suc n) (d + l) (map (raise d) s) ≡ raise_c d (clear c e (suc n) l s)
clear_turn c e n d ih l s nothing h = rw (clear_stop c e n (d + l) (map (raise d) s) (next_raise c e d s ∙ ap (raise_f d) h), clear_stop c e n l s h) refl
clear_turn c e n d ih l s (at i r) h =
    rw (clear_more c e n (d + l) (map (raise d) s) i (higher d r) (next_raise c e d s ∙ ap (raise_f d) h), clear_more c e n l s i r h, raise_set d s i none)
    (ap (also i (higher d r)) (ih r.key (set s i none)))

clear_raise : (c : Settings) (e : Wanted) (n d l : ℕ) (s : Shelf) → clear c e n (d + l) (map (raise d) s) ≡ raise_c d (clear c e n l s)
unfolding clear
clear_raise c e zero d l s = refl
clear_raise c e (suc n) d l s = clear_turn c e n d (λ l s. clear_raise c e n d l s) l s (next c e s) refl

-- ---- a request

-- a key that is set is d more where inflation is
keyed_raise : (d l size cost f t : ℕ) → keyed (d + l) size cost f t ≡ higher d (keyed l size cost f t)
keyed_raise d l size cost f t =
    let e : d + l + product_of f size cost ≡ d + (l + product_of f size cost) = omega arith in
    ap (λ (k : ℕ). record { size = size; cost = cost; freq = f; key = k; stamp = t }) e

goes_raise : (d f : ℕ) (gs : List Gone) → goes f (map (whole_gone d) gs) ≡ goes f gs
goes_raise d f [] = refl
goes_raise d f (g ∷ gs) = rw (goes_raise d f gs)

module _ (c : Settings) (d l : ℕ) (s : Shelf) (t : ℕ) (q : Request) where
  settle_raise : (x : Cleared) (b : Bool) → settle (d + l) (map (raise d) s) t q (raise_c d x) b ≡ whole_served d (settle l s t q x b)
  settle_raise x true = refl
  settle_raise x false = refl

  admit_raise : (p : Policy) → admit p c (d + l) (map (raise d) s) t q ≡ whole_served d (admit p c l s t q)
  unfolding admit
  admit_raise gds =
      let x : Cleared = clear c (beside q.size) (length s) l s in
      rw (length-map s (raise d), clear_raise c (beside q.size) (length s) d l s, keyed_raise d x.inflation q.size q.cost 1 t)
      (ap (λ (u : Shelf). served (d + x.inflation) u t (missed q (map (whole_gone d) x.taken) Admitted)) (raise_set d x.shelf q.file (newcomer x.inflation q t)))
  admit_raise gdsf =
      let u : Shelf = set s q.file (newcomer l q t) in
      let x : Cleared = clear c among (length s) l u in
      rw (length-map s (raise d), keyed_raise d l q.size q.cost 1 t, raise_set d s q.file (newcomer l q t), clear_raise c among (length s) d l u, goes_raise d q.file x.taken)
      (settle_raise x (goes q.file x.taken))

  miss_raise : (p : Policy) (b : Bool)
      → ◌≡◌ {A = Served State} (pick b (served (d + l) (map (raise d) s) t (missed q [] (Passed TooBig))) (admit p c (d + l) (map (raise d) s) t q))
      (whole_served d (pick b (served l s t (missed q [] (Passed TooBig))) (admit p c l s t q)))
  miss_raise p true = refl
  miss_raise p false = admit_raise p

  meet_raise : (p : Policy) (x : Slot) → meet p c (d + l) (map (raise d) s) t q (raise d x) ≡ whole_served d (meet p c l s t q x)
  meet_raise p (kept r) =
      rw (keyed_raise d l r.size r.cost (again p r.freq) t)
      (ap (λ (u : Shelf). served (d + l) u t (record { dropped = none; evicted = []; outcome = Hit; size = r.size; cost = r.cost }))
      (raise_set d s q.file (kept (keyed l r.size r.cost (again p r.freq) t))))
  meet_raise p none = miss_raise p (ltb c.capacity q.size)

-- the request is served alike, whatever was put back
pub step_whole : (p : Policy) (c : Settings) (d : ℕ) (st : State) (q : Request) → step p c (whole d st) q ≡ whole_served d (step p c st q)
unfolding step
step_whole p c d st q =
    let x : Slot = old_copy q.size (get_or st.shelf q.file none) in
    let s : Shelf = drop_old q.file x st.shelf in
    rw (get_or-map (raise d) st.shelf q.file none, old_raise d q.size (get_or st.shelf q.file none), drop_raise d q.file st.shelf x, get_or-map (raise d) s q.file none)
    (ap (dropping (raise d x)) (meet_raise c d st.inflation s st.stamp (resolved q) p (get_or s q.file none)))

-- and so is a run
pub run_whole : (p : Policy) (c : Settings) (d : ℕ) (st : State) (qs : List Request) → run (step p c) (whole d st) qs ≡ whole_run d (run (step p c) st qs)
unfolding run
run_whole p c d st [] = refl
run_whole p c d st (q ∷ qs) =
    rw (step_whole p c d st q) (ap (after (whole_reply d (step p c st q).reply)) (run_whole p c d (step p c st q).state qs))

-- ---- what holds of the one holds of the other

raised_at : (d : ℕ) (x : Slot) (r : Kept) → x ≡ kept r → raise d x ≡ kept (higher d r)
raised_at d x r e = ap (raise d) e

-- a file that is kept with its whole key is kept
pub record Lower (d : ℕ) (x : Slot) (r : Kept) : Type 0 where
  pub was : Kept
  pub slot : x ≡ kept was
  pub is : higher d was ≡ r

lower_at_lem : (d : ℕ) (x : Slot) (r : Kept) → raise d x ≡ kept r → Lower d x r
lower_at_lem d none r e = none_kept e
lower_at_lem d (kept q) r e = record { was = q; slot = refl; is = cc }

module _ (d : ℕ) (s : Shelf) where
  pub whole_at : (i : ℕ) (r : Kept) → get_or s i none ≡ kept r → get_or (map (raise d) s) i none ≡ kept (higher d r)
  whole_at i r e = get_or-map (raise d) s i none ∙ raised_at d (get_or s i none) r e

  pub near_at : (i : ℕ) (r : Kept) → get_or (map (raise d) s) i none ≡ kept r → Lower d (get_or s i none) r
  near_at i r e = lower_at_lem d (get_or s i none) r (sym (get_or-map (raise d) s i none) ∙ e)

-- soundness of the whole state is soundness of what is left of it, with the bound on whole inflation
module _ (p : Policy) (c : Settings) (d : ℕ) (st : State) (n : ℕ) where
  pub near_sound : SoundAt p c (whole d st) n → SoundAt p c st n
  near_sound h = record {
    slots = sym (length-map st.shelf (raise d)) ∙ h.slots;
    bytes = omega (arith, h.bytes, sum_raise (λ r. r.size) d (λ r. refl) st.shelf);
    files = omega (arith, h.files, sum_raise (λ r. 1) d (λ r. refl) st.shelf);
    fine = λ i r e. let x = h.fine i (higher d r) (whole_at d st.shelf i r e) in record { valued = x.valued; freq = x.freq; seldom = x.seldom; once = x.once };
    stamps = λ i r e. h.stamps i (higher d r) (whole_at d st.shelf i r e);
    apart = λ i j r q a b e. h.apart i j (higher d r) (higher d q) (whole_at d st.shelf i r a) (whole_at d st.shelf j q b) e;
    freqs = omega (arith, h.freqs, sum_raise (λ r. r.freq) d (λ r. refl) st.shelf);
    keys = λ i r e. let x = h.keys i (higher d r) (whole_at d st.shelf i r e) in (omega (arith, x), omega (arith, x));
    total = omega (arith, h.total, sum_raise product d (λ r. refl) st.shelf);
  }

  pub near_total : SoundAt p c (whole d st) n → d + st.inflation + sum product st.shelf ≤ n * worth_most
  near_total h = omega (arith, h.total, sum_raise product d (λ r. refl) st.shelf)

  pub whole_sound : SoundAt p c st n → d + st.inflation + sum product st.shelf ≤ n * worth_most → SoundAt p c (whole d st) n
  whole_sound h b = record {
    slots = length-map st.shelf (raise d) ∙ h.slots;
    bytes = omega (arith, h.bytes, sum_raise (λ r. r.size) d (λ r. refl) st.shelf);
    files = omega (arith, h.files, sum_raise (λ r. 1) d (λ r. refl) st.shelf);
    fine = λ i r e. let x = near_at d st.shelf i r e in let y = h.fine i x.was x.slot in
        subst (Fine p) x.is (record { valued = y.valued; freq = y.freq; seldom = y.seldom; once = y.once });
    stamps = λ i r e. let x = near_at d st.shelf i r e in subst (λ (q : Kept). q.stamp < st.stamp) x.is (h.stamps i x.was x.slot);
    apart = λ i j r q a b e. let x = near_at d st.shelf i r a in let y = near_at d st.shelf j q b in
        h.apart i j x.was y.was x.slot y.slot (ap (λ (k : Kept). k.stamp) x.is ∙ e ∙ sym (ap (λ (k : Kept). k.stamp) y.is));
    freqs = omega (arith, h.freqs, sum_raise (λ r. r.freq) d (λ r. refl) st.shelf);
    keys = λ i r e. let x = near_at d st.shelf i r e in let y = h.keys i x.was x.slot in
        subst (λ (q : Kept). (d + st.inflation ≤ q.key) × (q.key ≤ d + st.inflation + product q)) x.is (omega (arith, y), omega (arith, y));
    total = omega (arith, b, sum_raise product d (λ r. refl) st.shelf);
  }
