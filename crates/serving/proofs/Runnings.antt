-- After a request: the tables are sound again. Assumes nothing.
use mathlib.Core.Path.{◌≡◌, sym, ap, ◌∙◌, subst, subst₂}
use mathlib.Core.List.{List}
use Prim.Native.Nat.{ℕ, suc, ◌+◌, ◌*◌, ◌≤◌, ◌<◌}
use native.Mathlib.Omega.{arith}
use native.Mathlib.Numerals.{add-one}
use Rattle.amounts.specs.Limits.{requests_most, lift}
use Rattle.amounts.specs.Requests.{Request, Ranged}
use Rattle.method.specs.Shelf.{bytes, files}
use Rattle.method.specs.Method.{Policy, State, Served, step}
use Rattle.method.specs.Totals.{Agreed}
use Rattle.method.specs.Promise.{SoundAt}
use Rattle.method.specs.declared.outcome.Outcome.{Outcome}
use Rattle.method.specs.Whole.{whole}
use Rattle.method.proofs.Sound.{step_sound}
use Rattle.method.proofs.Raising.{step_whole}
use Rattle.method.proofs.Lifts.{step_rises}
use Rattle.method.proofs.Agreement.{step_agreed}
use Rattle.method.proofs.Runs.{step_stamp}
use Rattle.tables.specs.Tables.{Tables, shelf_of}
use Rattle.tables.specs.Tally.{store_of, policy_in, totals_of, state_of, whole_of}
use Rattle.tables.specs.declared.tally.Tally.{Tally}
use Rattle.tables.proofs.Near.{near}
use Rattle.tables.proofs.Ranges.{bounded}
use Rattle.shelving.specs.Live.{Live, Stack}
use Rattle.counting.specs.Counting.{after}
use Rattle.admitting.specs.Deciding.{Running, Gives}

module _ (a : Tally) (t : Tables) (entry free : List ℕ) (h : Running a t entry free) (q : Request) (ranged : Ranged a.settings.catalogue.0 q) (few : a.requests < requests_most)
    (ready : a.inflation.0 < lift) where
  abbrev given : Served State
  given = step (policy_in a.settings) (store_of a.settings) (state_of a t) q

  pub next_state : (u : Tables) → shelf_of a.settings.catalogue.0 u ≡ given.state.shelf → state_of (after a given) u ≡ given.state
  next_state u e =
      let stamp : a.requests + 1 ≡ given.state.stamp = add-one a.requests ∙ sym (step_stamp (policy_in a.settings) (store_of a.settings) (state_of a t) q) in
      λ i. record { inflation = given.state.inflation; shelf = e i; stamp = stamp i }

  next_running : (u : Tables) (entry' free' : List ℕ) → shelf_of a.settings.catalogue.0 u ≡ given.state.shelf
      → Live a.settings (after a given).files_kept (after a given).files_kept u entry' → Stack a.settings (after a given).files_kept u free'
      → Running (after a given) u entry' free'
  next_running u entry' free' e live stack =
      let p : Policy = policy_in a.settings in
      let one : 1 ≤ (store_of a.settings).places = (bounded a.settings h.ranged).places.0 in
      record {
        ranged = h.ranged;
        long = live.long;
        sound =
            record {
              agreed =
                  step_agreed p (store_of a.settings) (state_of a t) a.requests (near h.sound) q ranged (totals_of a)
                  (subst (λ (n : ℕ). Agreed n (totals_of a)) (sym h.sound.files) h.sound.agreed);
              few = omega (arith, few);
              low = omega (arith, ready, (step_rises p (store_of a.settings) (state_of a t) a.requests (near h.sound) q ranged).most);
              linked = live.linked;
              queued = live.queued;
              ordered = live.whole.ordered;
              shelf =
                  subst₂ (λ st n. SoundAt p (store_of a.settings) (whole (a.lifts * lift) st) n) (sym (next_state u e)) (sym (add-one a.requests))
                  (subst (λ (x : Served State). SoundAt p (store_of a.settings) x.state (suc a.requests)) (step_whole p (store_of a.settings) (a.lifts * lift) (state_of a t) q)
                  (step_sound p (store_of a.settings) one (whole_of a t) a.requests h.sound.shelf q ranged));
              files = ap files e;
              bytes = ap bytes e;
            };
        desk = record { indexed = live.whole.indexed; spare = stack.spare };
        entry_long = live.entry_long;
        free_long = stack.long;
      }

  pub running_next : {events es events' entry' free' : List ℕ} {at end : ℕ} {o : Outcome} {b : Tally} {u : Tables} → Gives a t events at given es o b end u entry' free' events'
      → Running b u entry' free'
  running_next {entry' = entry'} {free'} {u = u} y =
      subst (λ (b : Tally). Live a.settings b.files_kept b.files_kept u entry' → Stack a.settings b.files_kept u free' → Running b u entry' free') (sym y.tally)
      (next_running u entry' free' y.shelf) y.live y.stack
