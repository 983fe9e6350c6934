-- What holds after every request, for both policies: `Sound`, from any sound state and from a fresh start. Assumes nothing.
use mathlib.Core.Path.{◌≡◌, refl, sym, ◌∙◌, subst}
use mathlib.Core.Logic.{◌⊎◌, inl, inr, ⊎_elim}
use mathlib.Core.Bool.{Bool, true, false}
use mathlib.Core.List.{List, [], ◌∷◌}
use Prim.Native.Nat.{ℕ, zero, suc, ◌+◌, ◌*◌, ◌≤◌, ◌<◌}
use native.Mathlib.Omega.{arith}
use lib.Dec.{ltb}
use borrow.Author.Tests.{ltb-true}
use lib.ListN.{length, get_or, set, replicate, length-set, length-replicate}
use Rattle.amounts.specs.Limits.{pick, places_most, frequency_most}
use Rattle.amounts.specs.Worth.{product_of, worth_most, Valued}
use Rattle.amounts.specs.Requests.{Request, resolved, Ranged, AllRanged}
use Rattle.amounts.proofs.Tests.{one_to_lem}
use Rattle.amounts.proofs.Values.{product_most, product_more, product_rises, in_force_valued}
use Rattle.method.specs.Shelf.{Kept, Slot, none, kept, Shelf, sum, bytes, files, product, at, Each}
use Rattle.method.specs.Method.{Policy, gds, gdsf, Settings, Wanted, beside, among, Cleared, clear, State, hit, keyed, again, newcomer, meet, step, fresh, run}
use Rattle.method.specs.Promise.{Set, Apart, Once, Fine, Sound, SoundAt}
use Rattle.method.proofs.Shelves.{Good, none_kept, is_kept, each_set, sum_set, files_le, at_set, not_lower_key}
use Rattle.method.proofs.Room.{clear_keeps, Fits, clear_fits}
use Rattle.method.proofs.Cases.{room₁, room₂, admitted₁, admitted₂, meet_by, left, old_by}

-- ---- stamps

pub apart_none : (s : Shelf) (k : ℕ) → Apart s → Apart (set s k none)
apart_none s k h i j r q a b =
    ⊎_elim (λ z. none_kept z.1) (λ a. ⊎_elim (λ z. none_kept z.1) (λ b. h i j r q a b) (at_set s k none j q b)) (at_set s k none i r a)

pub apart_put : (s : Shelf) (k : ℕ) (p : Kept) → Each (λ r. r.stamp < p.stamp) s → Apart s → Apart (set s k (kept p))
apart_put s k p new h i j r q a b e = go (at_set s k (kept p) i r a) (at_set s k (kept p) j q b)
  where
    go : ((i ≡ k) × (kept p ≡ kept r)) ⊎ (get_or s i none ≡ kept r) → ((j ≡ k) × (kept p ≡ kept q)) ⊎ (get_or s j none ≡ kept q) → i ≡ j
    go (inl a) (inl b) = a.0 ∙ sym b.0
    go (inl a) (inr b) = let z : p.stamp ≡ r.stamp = is_kept (λ x. p.stamp ≡ x.stamp) p refl r a.1 in absurd (omega (arith, new j q b))
    go (inr a) (inl b) = let z : p.stamp ≡ q.stamp = is_kept (λ x. p.stamp ≡ x.stamp) p refl q b.1 in absurd (omega (arith, new i r a))
    go (inr a) (inr b) = h i j r q a b e

-- ---- all of `Sound` but what fits: k is the length, b bounds the inflation with the products, t is above the stamps, n bounds the frequencies

record Held (p : Policy) (k b t n l : ℕ) (s : Shelf) : Type 0 where
  slots : length s ≡ k
  fine : Each (Fine p) s
  stamps : Each (λ r. r.stamp < t) s
  apart : Apart s
  freqs : sum (λ r. r.freq) s ≤ n
  keys : Each (λ r. (l ≤ r.key) × (r.key ≤ l + product r)) s
  total : l + sum product s ≤ b

-- taking the lowest keeps it
held_step : (p : Policy) (k b t n l : ℕ) (s : Shelf) (i : ℕ) (r : Kept) → Held p k b t n l s → Good s (at i r) → Held p k b t n r.key (set s i none)
held_step p k b t n l s i r h g =
    let u : sum product (set s i none) + product r ≤ 0 + sum product s = rw g.0 at (sum_set product s i none) in
    let f : sum (λ r. r.freq) (set s i none) + r.freq ≤ 0 + sum (λ r. r.freq) s = rw g.0 at (sum_set (λ r. r.freq) s i none) in
    let m : (l ≤ r.key) × (r.key ≤ l + product r) = h.keys i r g.0 in
    record {
      slots = length-set s i none ∙ h.slots;
      fine = each_set _ s i none (λ q z. none_kept z) h.fine;
      stamps = each_set _ s i none (λ q z. none_kept z) h.stamps;
      apart = apart_none s i h.apart;
      freqs = omega (arith, h.freqs);
      keys = each_set _ s i none (λ q z. none_kept z) (λ j q z. omega (arith, h.keys j q z, not_lower_key r q (g.1 j q z)));
      total = omega (arith, h.total);
    }

held_clear : (p : Policy) (c : Settings) (e : Wanted) (turns k b t n l : ℕ) (s : Shelf) → Held p k b t n l s
    → Held p k b t n (clear c e turns l s).inflation (clear c e turns l s).shelf
held_clear p c e turns k b t n l s h = clear_keeps c e (Held p k b t n) (held_step p k b t n) turns l s h

-- a key is set
held_put : (p : Policy) (k b b' t n n' l : ℕ) (s : Shelf) (i size cost f : ℕ) → Held p k b t n l s → Fine p (keyed l size cost f t)
    → sum (λ r. r.freq) (set s i (kept (keyed l size cost f t))) ≤ n' → l + sum product (set s i (kept (keyed l size cost f t))) ≤ b'
    → Held p k b' (suc t) n' l (set s i (kept (keyed l size cost f t)))
held_put p k b b' t n n' l s i size cost f h v w d =
    let r : Kept = keyed l size cost f t in
    record {
      slots = length-set s i (kept r) ∙ h.slots;
      fine = each_set _ s i (kept r) (is_kept (Fine p) r v) h.fine;
      stamps = each_set _ s i (kept r) (is_kept (λ q. q.stamp < suc t) r (omega arith)) (λ j q z. omega (arith, h.stamps j q z));
      apart = apart_put s i r h.stamps h.apart;
      freqs = w;
      keys = each_set _ s i (kept r) (is_kept (λ q. (l ≤ q.key) × (q.key ≤ l + product q)) r (omega arith)) h.keys;
      total = d;
    }

-- ---- frequencies

again_le : (p : Policy) (f : ℕ) → again p f ≤ suc f
again_le gds f = omega arith
again_le gdsf f = go (ltb f frequency_most)
  where
    go : (b : Bool) → pick b (suc f) f ≤ suc f
    go true = omega arith
    go false = omega arith

again_fine : (p : Policy) (l t : ℕ) (r : Kept) → Fine p r → Fine p (keyed l r.size r.cost (again p r.freq) t)
again_fine gds l t r h = record { valued = h.valued; freq = omega arith; seldom = omega arith; once = refl }
again_fine gdsf l t r h = go (ltb r.freq frequency_most) refl
  where
    go : (b : Bool) → ltb r.freq frequency_most ≡ b → Fine gdsf (keyed l r.size r.cost (pick b (suc r.freq) r.freq) t)
    go true e = record { valued = h.valued; freq = omega arith; seldom = omega (arith, ltb-true r.freq frequency_most e); once = tt }
    go false e = record { valued = h.valued; freq = h.freq; seldom = h.seldom; once = tt }

once_one : (p : Policy) → Once p 1
once_one gds = refl
once_one gdsf = tt

new_fine : (p : Policy) (l t : ℕ) (q : Request) → Valued q.size q.cost → Fine p (keyed l q.size q.cost 1 t)
new_fine p l t q v = record { valued = v; freq = omega arith; seldom = omega arith; once = once_one p }

-- ---- a request

to_sound : (p : Policy) (c : Settings) (l : ℕ) (s : Shelf) (t n : ℕ) → Held p c.catalogue (n * worth_most) t n l s → bytes s ≤ c.capacity → files s ≤ c.places → Sound p c l s t n
to_sound p c l s t n h a b =
    record { slots = h.slots; bytes = a; files = b; fine = h.fine; stamps = h.stamps; apart = h.apart; freqs = h.freqs; keys = h.keys; total = h.total }

module _ (p : Policy) (c : Settings) (one : 1 ≤ c.places) (l : ℕ) (s : Shelf) (t n : ℕ) (h : Sound p c l s t n) (q : Request) (v : Valued q.size q.cost) where
  held : Held p c.catalogue (n * worth_most) t n l s
  held = record { slots = h.slots; fine = h.fine; stamps = h.stamps; apart = h.apart; freqs = h.freqs; keys = h.keys; total = h.total }

  sound_pass : Sound p c l s (suc t) (suc n)
  sound_pass =
      record {
        slots = h.slots;
        bytes = h.bytes;
        files = h.files;
        fine = h.fine;
        stamps = λ j q z. omega (arith, h.stamps j q z);
        apart = h.apart;
        freqs = omega (arith, h.freqs);
        keys = h.keys;
        total = omega (arith, h.total);
      }

  sound_hit : (r : Kept) → get_or s q.file none ≡ kept r → SoundAt p c (hit p l s t q.file r).state (suc n)
  sound_hit r e =
      let f : ℕ = again p r.freq in
      let x : Slot = kept (keyed l r.size r.cost f t) in
      let a : bytes (set s q.file x) + r.size ≤ r.size + bytes s = rw e at (sum_set (λ r. r.size) s q.file x) in
      let b : files (set s q.file x) + 1 ≤ 1 + files s = rw e at (sum_set (λ r. 1) s q.file x) in
      let g : sum (λ r. r.freq) (set s q.file x) + r.freq ≤ f + sum (λ r. r.freq) s = rw e at (sum_set (λ r. r.freq) s q.file x) in
      let m : sum product (set s q.file x) + product r ≤ product_of f r.size r.cost + sum product s = rw e at (sum_set product s q.file x) in
      let d : product_of f r.size r.cost ≤ product_of (suc r.freq) r.size r.cost = product_rises f (suc r.freq) r.size r.cost (again_le p r.freq) in
      let k : product_of (suc r.freq) r.size r.cost ≤ product r + worth_most = product_more r.freq r.size r.cost (h.fine q.file r e).valued in
      to_sound p c l _ (suc t) (suc n)
      (held_put p _ _ (suc n * worth_most) t n (suc n) l s q.file r.size r.cost f held (again_fine p l t r (h.fine q.file r e))
      (omega (arith, h.freqs, again_le p r.freq)) (omega (arith, h.total)))
      (omega (arith, h.bytes)) (omega (arith, h.files))

  once : product_of 1 q.size q.cost ≤ worth_most
  once = omega (arith, product_most 1 q.size q.cost v)

  sound₁ : q.size ≤ c.capacity → SoundAt p c (admitted₁ c l s t q).state (suc n)
  sound₁ small =
      let e : Wanted = beside q.size in
      let x : Cleared = room₁ c l s q in
      let y : Slot = newcomer x.inflation q t in
      let f : Fits c e x.shelf = clear_fits c e small one (length s) l s (files_le s) in
      let g : Held p c.catalogue (n * worth_most) t n x.inflation x.shelf = held_clear p c e (length s) _ _ t n l s held in
      to_sound p c x.inflation _ (suc t) (suc n)
      (held_put p _ _ (suc n * worth_most) t n (suc n) x.inflation x.shelf q.file q.size q.cost 1 g (new_fine p x.inflation t q v)
      (omega (arith, sum_set (λ r. r.freq) x.shelf q.file y, g.freqs)) (omega (arith, sum_set product x.shelf q.file y, g.total, once)))
      (omega (arith, sum_set (λ r. r.size) x.shelf q.file y, f.bytes))
      (omega (arith, sum_set (λ r. 1) x.shelf q.file y, f.files))

  sound₂ : SoundAt p c (admitted₂ c l s t q).state (suc n)
  sound₂ =
      let y : Slot = newcomer l q t in
      let u : Shelf = set s q.file y in
      let x : Cleared = room₂ c l s t q in
      let f : Fits c among x.shelf = clear_fits c among (omega arith) (omega arith) (length s) l u (omega (arith, files_le u, length-set s q.file y)) in
      let g : Held p c.catalogue (suc n * worth_most) (suc t) (suc n) l u =
      held_put p _ _ (suc n * worth_most) t n (suc n) l s q.file q.size q.cost 1 held (new_fine p l t q v)
      (omega (arith, sum_set (λ r. r.freq) s q.file y, h.freqs)) (omega (arith, sum_set product s q.file y, h.total, once)) in
      to_sound p c x.inflation x.shelf (suc t) (suc n) (held_clear p c among (length s) _ _ (suc t) (suc n) l u g) (omega (arith, f.bytes)) (omega (arith, f.files))

-- a request in range, resolved, has a size and a cost in force
pub resolved_valued : (k : ℕ) (q : Request) → Ranged k q → Valued (resolved q).size (resolved q).cost
resolved_valued k q v = in_force_valued q.size q.cost v.size v.cost

-- a request with its cost in force, met at the shelf as it stands
pub meet_sound : (p : Policy) (c : Settings) → 1 ≤ c.places → (l : ℕ) (s : Shelf) (t n : ℕ) → Sound p c l s t n → (q : Request) → Valued q.size q.cost
    → SoundAt p c (meet p c l s t q (get_or s q.file none)).state (suc n)
meet_sound p c one l s t n h q v =
    meet_by p c l s t q (λ x. SoundAt p c x.state (suc n)) (λ _. sound_pass p c one l s t n h q v) (sound_hit p c one l s t n h q v)
    (λ _ _ small. sound₁ p c one l s t n h q v small) (λ _ _ _. sound₂ p c one l s t n h q v) (get_or s q.file none) refl

-- a file dropped: L stays, and what is left is sound
pub drop_sound : (p : Policy) (c : Settings) (l : ℕ) (s : Shelf) (t n : ℕ) → Sound p c l s t n → (i : ℕ) → Sound p c l (set s i none) t n
drop_sound p c l s t n h i =
    record {
      slots = length-set s i none ∙ h.slots;
      bytes = omega (arith, sum_set (λ r. r.size) s i none, h.bytes);
      files = omega (arith, sum_set (λ r. 1) s i none, h.files);
      fine = each_set _ s i none (λ q z. none_kept z) h.fine;
      stamps = each_set _ s i none (λ q z. none_kept z) h.stamps;
      apart = apart_none s i h.apart;
      freqs = omega (arith, sum_set (λ r. r.freq) s i none, h.freqs);
      keys = each_set _ s i none (λ q z. none_kept z) h.keys;
      total = omega (arith, sum_set product s i none, h.total);
    }

-- and so is what the old copy leaves
pub left_sound : (p : Policy) (c : Settings) (st : State) (n : ℕ) → SoundAt p c st n → (q : Request) → Sound p c st.inflation (left st.shelf q.file q.size) st.stamp n
left_sound p c st n h q =
    old_by st.shelf q.file q.size (λ _ s. Sound p c st.inflation s st.stamp n) h (λ _ _ _. drop_sound p c st.inflation st.shelf st.stamp n h q.file)

pub step_sound : (p : Policy) (c : Settings) → 1 ≤ c.places → (st : State) (n : ℕ) → SoundAt p c st n → (q : Request) → Ranged c.catalogue q
    → SoundAt p c (step p c st q).state (suc n)
unfolding step
step_sound p c one st n h q w =
    meet_sound p c one st.inflation (left st.shelf q.file q.size) st.stamp n (left_sound p c st n h q) (resolved q) (resolved_valued c.catalogue q w)

-- ---- a run, from any sound state and from a fresh start

pub run_sound : (p : Policy) (c : Settings) → 1 ≤ c.places → (st : State) (n : ℕ) → SoundAt p c st n → (qs : List Request) → AllRanged c.catalogue qs
    → SoundAt p c (run (step p c) st qs).state (n + length qs)
unfolding run
run_sound p c one st n h [] v = subst (SoundAt p c st) (omega arith) h
run_sound p c one st n h (q ∷ qs) v =
    subst (SoundAt p c (run (step p c) (step p c st q).state qs).state) (omega arith)
    (run_sound p c one (step p c st q).state (suc n) (step_sound p c one st n h q v.0) qs v.1)

sum_fresh : (f : Kept → ℕ) (n : ℕ) → sum f (replicate n none) ≡ 0
unfolding sum
sum_fresh f zero = refl
sum_fresh f (suc n) = omega (arith, sum_fresh f n)

pub each_fresh : (P : Kept → Type 0) (n : ℕ) → Each P (replicate n none)
each_fresh P zero j q e = none_kept e
each_fresh P (suc n) zero q e = none_kept e
each_fresh P (suc n) (suc j) q e = each_fresh P n j q e

pub fresh_files : (c : Settings) → files (fresh c).shelf ≡ 0
fresh_files c = sum_fresh (λ r. 1) c.catalogue

pub fresh_sound : (p : Policy) (c : Settings) → SoundAt p c (fresh c) 0
fresh_sound p c =
    let n : ℕ = c.catalogue in
    record {
      slots = length-replicate n none;
      bytes = omega (arith, sum_fresh (λ r. r.size) n);
      files = omega (arith, sum_fresh (λ r. 1) n);
      fine = each_fresh _ n;
      stamps = each_fresh _ n;
      apart = λ i j r q a b e. absurd (each_fresh (λ q. ⊥) n i r a);
      freqs = omega (arith, sum_fresh (λ r. r.freq) n);
      keys = each_fresh _ n;
      total = omega (arith, sum_fresh product n);
    }

pub one_place : (c : Settings) → Set c → 1 ≤ c.places
one_place c h = (one_to_lem places_most c.places h.places).0
