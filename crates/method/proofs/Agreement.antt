-- The totals agree with one another and with the shelf after every request. Assumes nothing.
use mathlib.Core.Path.{◌≡◌, refl}
use mathlib.Core.List.{List, [], ◌∷◌, ◌++◌}
use Prim.Native.Nat.{ℕ, suc, ◌+◌, ◌≤◌}
use native.Mathlib.Omega.{arith}
use lib.ListN.{length, get_or}
use Rattle.amounts.specs.Worth.{Valued}
use Rattle.amounts.specs.Requests.{Request, resolved, Ranged, AllRanged}
use Rattle.method.specs.Shelf.{none, Shelf, files, Each}
use Rattle.method.specs.Method.{Policy, Settings, Reply, State, step, run}
use Rattle.method.specs.Totals.{Totals, on_hit, on_admitted, on_passed, copies, counted, totals, zeros, Amount, Agreed}
use Rattle.method.specs.Promise.{Fine, SoundAt}
use Rattle.method.specs.declared.outcome.Outcome.{Outcome}
use Rattle.method.specs.declared.outcome.Outcome.TheVariants.{Hit, Admitted, Passed}
use Rattle.method.proofs.Cases.{meet_by, left, left_each}
use Rattle.method.proofs.Counts.{step_counts}
use Rattle.method.proofs.Sound.{resolved_valued, step_sound}

-- a request is counted with a size and a cost in range
pub step_valued : (p : Policy) (c : Settings) (st : State) (n : ℕ) → SoundAt p c st n → (q : Request) → Ranged c.catalogue q
    → Valued (step p c st q).reply.size (step p c st q).reply.cost
unfolding step
step_valued p c st n h q w =
    let v : Valued (resolved q).size (resolved q).cost = resolved_valued c.catalogue q w in
    let s : Shelf = left st.shelf q.file q.size in
    let fine : Each (Fine p) s = left_each st.shelf q.file q.size (Fine p) h.fine in
    meet_by p c st.inflation s st.stamp (resolved q) (λ x. Valued x.reply.size x.reply.cost) (λ _. v) (λ r e. (fine q.file r e).valued) (λ _ _ _. v)
    (λ _ _ _. v) (get_or s q.file none) refl

-- an outcome is one of the three
one_kind : (o : Outcome) → on_hit o 1 + on_admitted o 1 + on_passed o 1 ≡ 1
one_kind Hit = refl
one_kind Admitted = refl
one_kind (Passed w) = refl

-- an amount, of bytes or of cost, with what one request adds to it
amount_counted : {most hits requests part whole : ℕ} (o : Outcome) (n : ℕ) → 1 ≤ n → n ≤ most → Amount most hits requests part whole
    → Amount most (hits + on_hit o 1) (requests + 1) (part + on_hit o n) (whole + n)
amount_counted Hit n l m g = record { hit_least = omega arith; hit_most = omega arith; hit_asked = omega arith; asked_least = omega arith; asked_most = omega arith }
amount_counted Admitted n l m g = record { hit_least = omega arith; hit_most = omega arith; hit_asked = omega arith; asked_least = omega arith; asked_most = omega arith }
amount_counted (Passed w) n l m g = record { hit_least = omega arith; hit_most = omega arith; hit_asked = omega arith; asked_least = omega arith; asked_most = omega arith }

-- one reply counted
pub counted_agreed : (k k' : ℕ) (a : Reply) (y : Totals) → Valued a.size a.cost
    → copies a.dropped + length a.evicted + k' ≡ k + on_admitted a.outcome 1 → Agreed k y → Agreed k' (counted y a)
counted_agreed k k' a y v e g = record {
  counts = record {
    outcomes = omega (arith, one_kind a.outcome, g.counts.outcomes);
    bytes = amount_counted a.outcome a.size v.size_least v.size_at_most g.counts.bytes;
  };
  gone = omega (arith, g.gone);
  cost = amount_counted a.outcome a.cost v.cost_least v.cost_at_most g.cost;
}

-- ---- a request, and a run

pub step_agreed : (p : Policy) (c : Settings) (st : State) (n : ℕ) → SoundAt p c st n → (q : Request) → Ranged c.catalogue q → (y : Totals) → Agreed (files st.shelf) y
    → Agreed (files (step p c st q).state.shelf) (counted y (step p c st q).reply)
step_agreed p c st n h q w y g =
    counted_agreed (files st.shelf) _ (step p c st q).reply y (step_valued p c st n h q w) (step_counts p c st q (omega (arith, h.slots, w.file))) g

pub run_agreed : (p : Policy) (c : Settings) → 1 ≤ c.places → (st : State) (n : ℕ) → SoundAt p c st n → (qs : List Request) → AllRanged c.catalogue qs
    → (y : Totals) → Agreed (files st.shelf) y → Agreed (files (run (step p c) st qs).state.shelf) (totals y (run (step p c) st qs).replies)
unfolding run totals
run_agreed p c one st n h [] v y g = g
run_agreed p c one st n h (q ∷ qs) v y g =
    run_agreed p c one (step p c st q).state (suc n) (step_sound p c one st n h q v.0) qs v.1 (counted y (step p c st q).reply) (step_agreed p c st n h q v.0 y g)

-- a fresh start's totals agree
pub zeros_agreed : Agreed 0 zeros
zeros_agreed =
    record {
      counts = record {
        outcomes = refl;
        bytes = record { hit_least = omega arith; hit_most = omega arith; hit_asked = omega arith; asked_least = omega arith; asked_most = omega arith };
      };
      gone = refl;
      cost = record { hit_least = omega arith; hit_most = omega arith; hit_asked = omega arith; asked_least = omega arith; asked_most = omega arith };
    }

-- ---- totals in parts, and how many are counted

pub totals_append : (y : Totals) (xs ys : List Reply) → totals y (xs ++ ys) ≡ totals (totals y xs) ys
unfolding totals
totals_append y [] ys = refl
totals_append y (a ∷ xs) ys = totals_append (counted y a) xs ys

pub totals_requests : (y : Totals) (xs : List Reply) → (totals y xs).requests ≡ y.requests + length xs
unfolding totals
totals_requests y [] = omega arith
totals_requests y (a ∷ xs) = omega (arith, totals_requests (counted y a) xs)
