-- One request served: its own entry is told beside what was decided, and the tables are sound again. Assumes nothing.
use mathlib.Core.Path.{◌≡◌, sym, ap, ◌∙◌, subst}
use mathlib.Core.List.{List, [], ◌∷◌, map, append_assoc}
use Prim.Native.Nat.{ℕ, ◌+◌, ◌≤◌, ◌<◌}
use native.Mathlib.Omega.{arith}
use lib.ListN.{length, set, length-append, length-map}
use lib.Seq.{sets}
use Rattle.amounts.specs.Limits.{lift}
use Rattle.amounts.specs.Worth.{in_force}
use Rattle.amounts.specs.Requests.{Request}
use Rattle.method.specs.Method.{State, Served, step}
use Rattle.method.specs.Events.{event, kind, stale, evict, answered, entries}
use Rattle.method.specs.declared.outcome.Pass.TheVariants.{TooBig, LowKey}
use Rattle.method.specs.declared.outcome.Outcome.{Outcome}
use Rattle.method.specs.declared.outcome.Outcome.TheVariants.{Hit, Admitted, Passed}
use Rattle.method.proofs.Runs.{length_stale}
use Rattle.tables.specs.Tables.{Tables}
use Rattle.tables.specs.Tally.{store_of, policy_in, state_of}
use Rattle.tables.specs.declared.tally.Tally.{Tally}
use Rattle.dropping.specs.Cleaning.{old_in, Cleanable, Cleans}
use Rattle.dropping.specs.declared.stale.Cleaned.{Cleaned}
use Rattle.admitting.specs.Deciding.{Gives, Met, meets, asked}
use Rattle.admitting.specs.declared.untold.Untold.{Untold}
use Rattle.serving.specs.Serving.{Servable, Running}
use Rattle.serving.specs.declared.step.Step.{Step}
use Rattle.serving.proofs.Writing.{sets_append}
use Rattle.serving.proofs.Cleanings.{told_by, joins}
use Rattle.serving.proofs.Runnings.{running_next}

-- document 01, "The run": x is what the method gives for the request q from what the words say; r, and what is left, is the same
abbrev Serves : Tally → Request → Tables → List ℕ → ℕ → Served State → Step → Tables → List ℕ → List ℕ → List ℕ → Type 0
Serves a q t events at x r u entry' free' events' = Gives a t events at x (entries q x.reply) r.outcome r.tally r.events u entry' free' events'

-- the request served below one lift, and sound tables again
pub record Near (a : Tally) (q : Request) (t : Tables) (events : List ℕ) (at : ℕ) (r : Step) (u : Tables) (entry' free' events' : List ℕ) : Type 0 where
  pub serves : Serves a q t events at (step (policy_in a.settings) (store_of a.settings) (state_of a t) q) r u entry' free' events'
  pub running : Running r.tally u entry' free'

pub kind_most : (o : Outcome) → kind o ≤ 6
kind_most Hit = omega arith
kind_most Admitted = omega arith
kind_most (Passed TooBig) = omega arith
kind_most (Passed LowKey) = omega arith

-- the step with its own entry
abbrev told : Untold → Step
told r = record { outcome = r.outcome; tally = r.tally; events = r.due + 1 }

-- what is told of a request before its own entry
abbrev Told : Tally → Request → Tables → List ℕ → ℕ → Served State → Untold → Tables → List ℕ → List ℕ → List ℕ → Type 0
Told a q t events at x r u entry' free' events' = Gives a t events at x (told_by q x) r.outcome r.tally r.due u entry' free' events'

-- document 01, "Event list": a request's own entry comes behind its evictions
own_entry : {a : Tally} {t : Tables} {events : List ℕ} {at : ℕ} {x : Served State} {r : Untold} {u : Tables} {entry' free' events' : List ℕ} (q : Request)
    → Told a q t events at x r u entry' free' events' → Serves a q t events at x (told r) u entry' free' (set events' r.due (event (kind r.outcome) q.file))
own_entry {events = events} {at} {x} q m =
    let old : List ℕ = stale q.file x.reply.dropped in
    let gone : List ℕ = map evict x.reply.evicted in
    let own : ℕ = event (kind x.reply.outcome) q.file in
    record {
      outcome = m.outcome;
      tally = m.tally;
      shelf = m.shelf;
      few = m.few;
      written =
          (λ i. set (m.written i) (m.count i) (event (kind (m.outcome i)) q.file)) ∙ sym (sets_append events at (told_by q x) (own ∷ []))
          ∙ ap (sets events at) (append_assoc old gone (own ∷ []));
      count = omega (arith, m.count, length-append old gone, length-append old (answered q x.reply), length-append gone (own ∷ []));
      live = m.live;
      stack = m.stack;
      past = m.past;
    }

module _ {a : Tally} {q : Request} {t : Tables} {entry free events : List ℕ} {at : ℕ} (h : Servable a q t entry free events at) where
  pub cleanable : Cleanable a q.file t entry free events at
  cleanable = record { running = h.running; known = h.ranged.file; room = omega (arith, h.room) }

  module _ {c : Cleaned} {t₁ : Tables} {entry₁ free₁ events₁ : List ℕ} (k : Cleans a q.file (old_in a q.file q.size t) t events at c t₁ entry₁ free₁ events₁)
      {cost : ℕ} (paid : cost ≡ in_force q.size q.cost) {r : Untold} {u : Tables} {entry' free' events' : List ℕ}
      (m : Met c.tally t₁ events₁ c.due (meets c.tally (asked q.file q.size cost) t₁) r u entry' free' events') where
    abbrev given : Served State
    given = step (policy_in a.settings) (store_of a.settings) (state_of a t) q

    both : Told a q t events at given r u entry' free' events'
    both = joins q k paid h.running.sound.files m

    -- there is room for its own entry
    pub own_room : r.due + 1 ≤ length events
    own_room =
        let x = given.reply in
        omega (arith, h.room, both.count, both.few, length-append (stale q.file x.dropped) (map evict x.evicted), length_stale q.file x.dropped, length-map x.evicted evict)

    pub near : a.inflation.0 < lift → {v : ℕ} → v ≡ event (kind r.outcome) q.file → Near a q t events at (told r) u entry' free' (set events' r.due v)
    near ready {v} e =
        let y : Serves a q t events at given (told r) u entry' free' (set events' r.due v) =
        subst (λ (w : ℕ). Serves a q t events at given (told r) u entry' free' (set events' r.due w)) (sym e) (own_entry q both) in
        record { serves = y; running = running_next a t entry free h.running q h.ranged h.few ready y }
