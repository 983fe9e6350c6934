-- A run from a fresh start over the call's own tables is the method's run: 1, 2, 5, 6, 7 and 8 cannot come. Assumes nothing.
use Prim.Native.Nat.{ℕ, zero, suc, ◌+◌, ◌*◌, ◌≤◌}
use mathlib.Core.Path.{◌≡◌, refl, ap, sym, subst, ◌∙◌}
use mathlib.Core.Bool.{true, ◌&&◌}
use mathlib.Core.List.{List, [], ◌∷◌}
use native.Mathlib.Omega.{arith}
use borrow.Author.Tests.{le-leb, eq-eqb}
use lib.ListN.{length, replicate, length-replicate}
use lib.Seq.{sets}
use Rattle.std.specs.Prelude.{Result, Ok, Err}
use Rattle.amounts.specs.Limits.{no_place, requests_most, is_unit, is_size, is_cost}
use Rattle.amounts.specs.Settings.{in_range}
use Rattle.amounts.specs.Requests.{Request, AllRanged}
use Rattle.amounts.specs.declared.settings.Settings.{Settings}
use Rattle.card.specs.Card.{done}
use Rattle.card.specs.declared.Refusal.{Refusal}
use Rattle.card.specs.declared.Refusal.TheVariants.{Range}
use Rattle.method.specs.Method.{State, Run, run, step, fresh}
use Rattle.method.specs.Whole.{lifts_of}
use Rattle.method.proofs.Runs.{events_length}
use Rattle.method.proofs.Sound.{fresh_sound, fresh_files}
use Rattle.trace.specs.Fields.{Field, val, off, field, on_val, is_file}
use Rattle.trace.specs.Reading.{Read, good, stop, push, requests, read_of, rows}
use Rattle.trace.proofs.OneAnswer.{answer_one}
use Rattle.trace.proofs.Ranges.{settled as fields}
use Rattle.tables.specs.Tables.{Tables, tables, Long, is_long, cleared}
use Rattle.tables.specs.Tally.{store_of, policy_in, whole_of, fresh_tally}
use Rattle.tables.specs.Start.{long, Freshly}
use Rattle.tables.specs.declared.tally.Tally.{Tally}
use Rattle.tables.proofs.Lengths.{long_last}
use Rattle.tables.proofs.Lists.{length_filled}
use Rattle.tables.proofs.Ranges.{bounded}
use Rattle.tables.proofs.Near.{fresh_whole}
use Rattle.tables.proofs.Twins.{fresh_done, freshly_sound}
use Rattle.parts.specs.Parts.{run_from, lifts_from, tally_of, events_of}
use Rattle.refusing.specs.Judging.{fitting_read, fitting, settled}
use Rattle.parts.specs.declared.Ended.{Ended}
use Rattle.replay.specs.Carrying.{Carried, carried, Runs, Answers, Judges, Carries}
use Rattle.layout.specs.Sheet.{own_places, own_catalogue, run_of, ran_lifts, ran_events}
use Rattle.layout.specs.Steps.{OwnSized, RanOn, Ran}

-- ---- no part has more requests than bytes

on_val_few : (l : List Request) (m : ℕ) (x : Field) (next : ℕ → List ℕ → Read) → ((v : ℕ) (s : List ℕ) → next v s ≡ good l → length l ≤ m)
    → on_val stop x next ≡ good l → length l ≤ m
on_val_few l m (val v s) next h e = h v s e
on_val_few l m (off r) next h e = let z : ◌≡◌ {A = ℕ} 0 1 = cc in absurd (omega arith)

push_few : (l : List Request) (m : ℕ) (q : Request) (x : Read) → ((ps : List Request) → x ≡ good ps → length ps ≤ m) → push q x ≡ good l → length l ≤ suc m
push_few l m q (good ps) h e = let f : q ∷ ps ≡ l = cc in omega (arith, ap length f, h ps refl)
push_few l m q (stop r) h e = let z : ◌≡◌ {A = ℕ} 0 1 = cc in absurd (omega arith)

requests_few : (n c k : ℕ) (s : List ℕ) (l : List Request) → requests n c k s ≡ good l → length l ≤ k
requests_few n c zero [] l e = let f : [] ≡ l = cc in omega (arith, ap length f)
requests_few n c zero (b ∷ t) l e = let z : ◌≡◌ {A = ℕ} 0 1 = cc in absurd (omega arith)
requests_few n c (suc k) [] l e = let f : [] ≡ l = cc in omega (arith, ap length f)
requests_few n c (suc k) (b ∷ t) l e =
    on_val_few l (suc k) (field n (is_file c) Range (b ∷ t)) _
    (λ file s₁. on_val_few l (suc k) (field n is_size Range s₁) _
    (λ size s₂. on_val_few l (suc k) (field n is_cost Range s₂) _
    (λ cost s₃. push_few l k _ (requests n c k s₃) (requests_few n c k s₃)))) e

pub few_requests : (n c : ℕ) (s : List ℕ) (l : List Request) → read_of n c s ≡ good l → length l ≤ length s
unfolding read_of
few_requests n c s l e = requests_few n c (length s) s l e

-- ---- two events a request are enough

pub few_events : (s : Settings) → in_range s ≡ true → (qs : List Request) → AllRanged s.catalogue.0 qs → length (ran_events s qs) ≤ 2 * length qs
few_events s h qs v =
    omega (arith, events_length (policy_in s) (store_of s) (bounded s h).places.0 (fresh (store_of s)) 0 (fresh_sound (policy_in s) (store_of s)) qs v, fresh_files (store_of s))

-- ---- the tables are long enough, before the fresh start and after it

long_is : (p n : ℕ) (t : Tables) → Long p n t → is_long p n t ≡ true
long_is p n t k = sym (long_last p n _ _ _ _ _ _ _ _ k.place k.file k.size k.cost k.freq k.key k.stamp) ∙ le-leb p (length t.queue) k.queue

long_cleared : (p n : ℕ) (t : Tables) → Long p n t → Long p n (cleared p n t)
long_cleared p n t k =
    record {
      place = rw (length_filled n no_place t.place k.place) k.place;
      file = rw (length_filled p 0 t.file k.file) k.file;
      size = rw (length_filled p 0 t.size k.size) k.size;
      cost = rw (length_filled p 0 t.cost k.cost) k.cost;
      freq = rw (length_filled p 0 t.freq k.freq) k.freq;
      key = rw (length_filled p 0 t.key k.key) k.key;
      stamp = rw (length_filled p 0 t.stamp k.stamp) k.stamp;
      queue = rw (length_filled p 0 t.queue k.queue) k.queue;
    }

-- ---- the run

module _ (s : Settings) (part told : List ℕ) (h : OwnSized s part told) (t : Tables) (k : Long s.places.0 s.catalogue.0 t) (d : Result Tally Refusal) (u : Tables) (f : Freshly s t d u) where
  begun : (d ≡ Ok (fresh_tally s)) × (u ≡ cleared s.places.0 s.catalogue.0 t)
  begun = fresh_done s t d u f h.given.ranged (long_is _ _ t k)

  long_after : long s u ≡ true
  long_after = ap (long s) begun.1 ∙ long_is _ _ _ (long_cleared _ _ t k)

  -- the tables stand for the state of a fresh start
  fresh_state : whole_of (fresh_tally s) u ≡ fresh (store_of s)
  fresh_state = ap (whole_of (fresh_tally s)) begun.1 ∙ fresh_whole s t

  fresh_run : (qs : List Request) → run_from (fresh_tally s) u qs ≡ run_of s qs
  fresh_run qs = ap (λ (st : State). run (step (policy_in s) (store_of s)) st qs) fresh_state

  fresh_lifts : (qs : List Request) → lifts_from (fresh_tally s) u qs ≡ ran_lifts s qs
  fresh_lifts qs = ap (λ (st : State). lifts_of (step (policy_in s) (store_of s)) 0 st qs) fresh_state

  module _ (r : Carried) (w : Tables) (told' : List ℕ) where
    ran_good : (qs : List Request) → Runs qs (fresh_tally s) u told r w told' → RanOn s told r told' (good qs)
    ran_good qs x =
        let e = fresh_run qs in (
          answer_one r.answer (Ok (length (ran_events s qs))) (x.answer ∙ ap (λ (y : Run State). done (length (events_of qs y) ∷ [])) e),
          x.tally ∙ (λ i. tally_of (fresh_tally s) (fresh_lifts qs i) (e i)),
          x.written ∙ ap (λ (y : Run State). sets told 0 (events_of qs y)) e,
        )

    ran_read : (z : Read) → read_of (length part) s.catalogue.0 part ≡ z → Answers (fresh_tally s) u told r w told' part (fitting_read (fresh_tally s) (length told) z) → RanOn s told r told' z
    ran_read (stop x) e y = answer_one r.answer (Err x) y.answer
    ran_read (good qs) e y =
        let few : length qs ≤ length part = few_requests (length part) s.catalogue.0 part qs e in
        let ran = rw (le-leb (0 + length qs) requests_most (omega (arith, h.given.short)), le-leb (2 * length qs + 0) (length told) (omega (arith, h.given.short, h.events))) at y in
        ran_good qs (subst (λ (l : List Request). Runs l (fresh_tally s) u told r w told') (ap rows e) ran)

    ran_fresh : Carries (fresh_tally s) u told r w told' s.unit.0 part → Ran s part told r told'
    unfolding settled fitting
    ran_fresh y =
        let l : is_unit s.unit.0 && in_range s ≡ true = rw ((fields s h.given.ranged).unit, h.given.ranged) refl in
        let j : Judges (fresh_tally s) u told r w told' part = rw (l, long_after, eq-eqb s.unit.0 s.unit.0 refl) at y in
        record { ran = ran_read (read_of (length part) s.catalogue.0 part) refl (j.sound (freshly_sound s t d u f h.given.ranged (long_is _ _ t k)).1) }

  -- the start is done, with a fresh tally, and what is carried on from it is the run
  pub not_refused : (x : Refusal) → d ≡ Err x → ⊥
  not_refused x e = let z : ◌≡◌ {A = Result Tally Refusal} (Err x) (Ok (fresh_tally s)) = sym e ∙ begun.0 in let n : ◌≡◌ {A = ℕ} 0 1 = cc in absurd (omega arith)

  pub ran_own : (a : Tally) → d ≡ Ok a → (r : Result Ended Refusal) (w : Tables) (told' : List ℕ) → Carries a u told (carried a r) w told' s.unit.0 part → Ran s part told (carried (fresh_tally s) r) told'
  ran_own a e r w told' y =
      let z : ◌≡◌ {A = Result Tally Refusal} (Ok a) (Ok (fresh_tally s)) = sym e ∙ begun.0 in
      let same : a ≡ fresh_tally s = cc in
      ran_fresh (carried (fresh_tally s) r) w told' (subst (λ (b : Tally). Carries b u told (carried b r) w told' s.unit.0 part) same y)

-- tables of the program's own lengths are long enough
pub own_long : (s : Settings) (part told : List ℕ) → OwnSized s part told → (p c : ℕ) → own_places ≤ p → own_catalogue ≤ c
    → Long s.places.0 s.catalogue.0 (tables (replicate c 0) (replicate p 0) (replicate p 0) (replicate p 0) (replicate p 0) (replicate p 0) (replicate p 0) (replicate p 0))
own_long s part told h p c i j =
    let l : s.places.0 ≤ length {A = ℕ} (replicate p 0) = omega (arith, h.places, length-replicate {A = ℕ} p 0) in
    record { place = omega (arith, h.catalogue, length-replicate {A = ℕ} c 0); file = l; size = l; cost = l; freq = l; key = l; stamp = l; queue = l }
