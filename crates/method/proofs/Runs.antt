-- Laws for whoever builds on the method: a run in parts, turns that make no difference, stamps, the length of the event list. Assumes nothing.
use mathlib.Core.Path.{◌≡◌, refl, sym, ap}
use mathlib.Core.Bool.{true, ◌||◌, or_assoc}
use mathlib.Core.List.{List, [], ◌∷◌, ◌++◌, append_assoc}
use Prim.Native.Nat.{ℕ, zero, suc, ◌+◌, ◌*◌, ◌≤◌}
use native.Mathlib.Omega.{arith}
use lib.Dec.{eqb}
use borrow.Author.Tests.{eq-eqb}
use lib.ListN.{length, get_or, set, length-append, length-map}
use Rattle.amounts.specs.Requests.{Request, resolved, AllRanged}
use Rattle.method.specs.Shelf.{Kept, Slot, none, kept, Shelf, files, Found, nothing, at}
use Rattle.method.specs.Method.{Policy, Settings, Gone, Reply, Served, Wanted, next, Cleared, also, clear, State, goes, step, run}
use Rattle.method.specs.Events.{stale, entries, events}
use Rattle.method.specs.Totals.{on_admitted, copies}
use Rattle.method.specs.Promise.{SoundAt}
use Rattle.method.specs.declared.outcome.Outcome.{Outcome}
use Rattle.method.specs.declared.outcome.Outcome.TheVariants.{Hit, Admitted, Passed}
use Rattle.method.proofs.Shelves.{sum_set}
use Rattle.method.proofs.Room.{next_at, clear_stop, clear_more}
use Rattle.method.proofs.Cases.{meet_by, left}
use Rattle.method.proofs.Counts.{step_counts}
use Rattle.method.proofs.Sound.{step_sound}

-- ---- a run in two parts is one run

pub run_append_state : {S : Type 0} (f : S → Request → Served S) (st : S) (xs ys : List Request)
    → (run f st (xs ++ ys)).state ≡ (run f (run f st xs).state ys).state
unfolding run
run_append_state f st [] ys = refl
run_append_state f st (q ∷ xs) ys = run_append_state f (f st q).state xs ys

pub run_append_replies : {S : Type 0} (f : S → Request → Served S) (st : S) (xs ys : List Request)
    → (run f st (xs ++ ys)).replies ≡ (run f st xs).replies ++ (run f (run f st xs).state ys).replies
unfolding run
run_append_replies f st [] ys = refl
run_append_replies f st (q ∷ xs) ys = rw (run_append_replies f (f st q).state xs ys)

pub run_append_events : {S : Type 0} (f : S → Request → Served S) (st : S) (xs ys : List Request)
    → events (xs ++ ys) (run f st (xs ++ ys)).replies ≡ events xs (run f st xs).replies ++ events ys (run f (run f st xs).state ys).replies
unfolding run events
run_append_events f st [] ys = refl
run_append_events f st (q ∷ xs) ys = rw (run_append_events f (f st q).state xs ys) (sym (append_assoc (entries q (f st q).reply) _ _))

-- ---- more turns than files make no difference

clear_fuel_turn : (c : Settings) (e : Wanted) (n m : ℕ) → ((l : ℕ) (s : Shelf) → files s ≤ n → files s ≤ m → clear c e n l s ≡ clear c e m l s)
    → (l : ℕ) (s : Shelf) → files s ≤ suc n → files s ≤ suc m → (f : Found) → next c e s ≡ f → clear c e (suc n) l s ≡ clear c e (suc m) l s
clear_fuel_turn c e n m ih l s h k nothing p = rw (clear_stop c e n l s p, clear_stop c e m l s p)
clear_fuel_turn c e n m ih l s h k (at i r) p =
    let d : files (set s i none) + 1 ≤ 0 + files s = rw (next_at c e s i r p).1.0 at (sum_set (λ r. 1) s i none) in
    rw (clear_more c e n l s i r p, clear_more c e m l s i r p) (ap (also i r) (ih r.key (set s i none) (omega arith) (omega arith)))

-- a shelf with no file has nothing to go
next_empty : (c : Settings) (e : Wanted) (s : Shelf) → files s ≤ 0 → next c e s ≡ nothing
next_empty c e s h = go (next c e s) refl
  where
    go : (f : Found) → next c e s ≡ f → f ≡ nothing
    go nothing p = refl
    go (at i r) p =
        let d : files (set s i none) + 1 ≤ 0 + files s = rw (next_at c e s i r p).1.0 at (sum_set (λ r. 1) s i none) in
        absurd (omega arith)

pub clear_fuel : (c : Settings) (e : Wanted) (n m l : ℕ) (s : Shelf) → files s ≤ n → files s ≤ m → clear c e n l s ≡ clear c e m l s
unfolding clear
clear_fuel c e zero zero l s h k = refl
clear_fuel c e zero (suc m) l s h k = sym (clear_stop c e m l s (next_empty c e s h))
clear_fuel c e (suc n) zero l s h k = clear_stop c e n l s (next_empty c e s k)
clear_fuel c e (suc n) (suc m) l s h k = clear_fuel_turn c e n m (λ l s. clear_fuel c e n m l s) l s h k (next c e s) refl

-- ---- a loop's invariant: what is taken so far, then what is still to go

abbrev pub first : List Gone → Cleared → Cleared
first done x = record { inflation = x.inflation; shelf = x.shelf; taken = done ++ x.taken }

pub goes_append : (f : ℕ) (a b : List Gone) → goes f (a ++ b) ≡ (goes f a || goes f b)
goes_append f [] b = refl
goes_append f (g ∷ a) b = rw (goes_append f a b) (sym (or_assoc (eqb f g.file) (goes f a) (goes f b)))

-- ---- whether a file goes

pub goes_here : (f : ℕ) (r : Kept) (b : List Gone) → goes f (record { file = f; was = r } ∷ b) ≡ true
goes_here f r b = rw (eq-eqb f f refl)

-- ---- stamps

pub step_stamp : (p : Policy) (c : Settings) (st : State) (q : Request) → (step p c st q).state.stamp ≡ suc st.stamp
unfolding step
step_stamp p c st q =
    let s : Shelf = left st.shelf q.file q.size in
    meet_by p c st.inflation s st.stamp (resolved q) (λ x. x.state.stamp ≡ suc st.stamp) (λ _. refl) (λ _ _. refl) (λ _ _ _. refl) (λ _ _ _. refl) (get_or s q.file none) refl

pub run_stamp : (p : Policy) (c : Settings) (st : State) (qs : List Request) → (run (step p c) st qs).state.stamp ≡ st.stamp + length qs
unfolding run
run_stamp p c st [] = omega arith
run_stamp p c st (q ∷ qs) = omega (arith, run_stamp p c (step p c st q).state qs, step_stamp p c st q)

pub run_replies : {S : Type 0} (f : S → Request → Served S) (st : S) (qs : List Request) → length (run f st qs).replies ≡ length qs
unfolding run
run_replies f st [] = refl
run_replies f st (q ∷ qs) = ap suc (run_replies f (f st q).state qs)

-- ---- the length of the event list

pub at_most_one : (o : Outcome) → on_admitted o 1 ≤ 1
at_most_one Hit = omega arith
at_most_one Admitted = omega arith
at_most_one (Passed w) = omega arith

pub length_stale : (file : ℕ) (x : Slot) → length (stale file x) ≡ copies x
length_stale file none = refl
length_stale file (kept r) = refl

pub length_entries : (q : Request) (a : Reply) → length (entries q a) ≡ suc (copies a.dropped + length a.evicted)
length_entries q a = simp (length-append, length-map) (omega (arith, length_stale q.file a.dropped))

-- 2 × requests + files kept before is always enough
pub events_length : (p : Policy) (c : Settings) → 1 ≤ c.places → (st : State) (n : ℕ) → SoundAt p c st n → (qs : List Request) → AllRanged c.catalogue qs
    → length (events qs (run (step p c) st qs).replies) + files (run (step p c) st qs).state.shelf ≤ 2 * length qs + files st.shelf
unfolding run events
events_length p c one st n h [] v = omega arith
events_length p c one st n h (q ∷ qs) v =
    let x : Served State = step p c st q in
    let d : copies x.reply.dropped + length x.reply.evicted + files x.state.shelf ≡ files st.shelf + on_admitted x.reply.outcome 1 =
    step_counts p c st q (omega (arith, h.slots, v.0.file)) in
    let rest = events_length p c one x.state (suc n) (step_sound p c one st n h q v.0) qs v.1 in
    let joined = length-append (entries q x.reply) (events qs (run (step p c) x.state qs).replies) in
    omega (arith, rest, joined, at_most_one x.reply.outcome, length_entries q x.reply)
