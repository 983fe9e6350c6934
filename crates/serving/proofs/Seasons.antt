-- A request after the lift that may be due: what it gives is the method's answer from the whole state. Assumes nothing.
use mathlib.Core.Path.{◌≡◌, refl, sym, ap, ◌∙◌, subst}
use mathlib.Core.List.{List, [], ◌∷◌, map}
use Prim.Native.Nat.{ℕ, ◌+◌, ◌-◌, ◌*◌, ◌<◌}
use native.Mathlib.Omega.{arith}
use lib.ListN.{length, length-map}
use lib.Seq.{sets}
use Rattle.amounts.specs.Limits.{lift}
use Rattle.amounts.specs.Requests.{Request, Ranged}
use Rattle.amounts.specs.declared.settings.Settings.{Settings}
use Rattle.method.specs.Shelf.{Slot, none, kept}
use Rattle.method.specs.Method.{State, Served, Reply, Gone, step}
use Rattle.method.specs.Events.{evict, stale, entries}
use Rattle.method.specs.Totals.{Totals, copies, counted}
use Rattle.method.specs.Whole.{raise, whole, whole_gone, whole_reply, whole_served, lifted}
use Rattle.method.proofs.Raising.{sum_raise, step_whole}
use Rattle.tables.specs.Tables.{Tables}
use Rattle.tables.specs.Tally.{store_of, policy_in, state_of, whole_of, totals_of, fresh_tally}
use Rattle.tables.specs.declared.tally.Tally.{Tally}
use Rattle.counting.specs.Counting.{tallied_at, whole_tally, after}
use Rattle.lifting.specs.Lifting.{Raised}
use Rattle.lifting.specs.Leaving.{with_keys, Leaves}
use Rattle.lifting.proofs.Raising.{raised}
use Rattle.serving.specs.Serving.{beyond_of, whole_step, Servable, Stepped}
use Rattle.serving.specs.declared.step.Step.{Step}
use Rattle.serving.proofs.Runnings.{next_state}
use Rattle.serving.proofs.Servings.{Near}

-- ---- events and totals do not see the keys

evict_whole : (d : ℕ) (gs : List Gone) → map evict (map (whole_gone d) gs) ≡ map evict gs
evict_whole d [] = refl
evict_whole d (g ∷ gs) = ap (λ (k : List ℕ). evict g ∷ k) (evict_whole d gs)

stale_whole : (d file : ℕ) (x : Slot) → stale file (raise d x) ≡ stale file x
stale_whole d file none = refl
stale_whole d file (kept r) = refl

copies_whole : (d : ℕ) (x : Slot) → copies (raise d x) ≡ copies x
copies_whole d none = refl
copies_whole d (kept r) = refl

entries_whole : (d : ℕ) (q : Request) (a : Reply) → entries q (whole_reply d a) ≡ entries q a
entries_whole d q a = rw (stale_whole d q.file a.dropped, evict_whole d a.evicted)

counted_whole : (d : ℕ) (y : Totals) (a : Reply) → counted y (whole_reply d a) ≡ counted y a
counted_whole d y a = rw (copies_whole d a.dropped, length-map a.evicted (whole_gone d))

-- ---- a request at a, t, and what the lift leaves of them

module _ {a : Tally} {q : Request} {t : Tables} {entry free events : List ℕ} {at : ℕ} (h : Servable a q t entry free events at) {keys' : List ℕ} {b : Tally}
    (raise-due : Raised a t.queue t.key keys' b) where
  abbrev v : Tables
  v = with_keys t keys'

  l : Leaves a t entry free b v
  l = raised a t entry free h.running b keys' raise-due

  pub ready : b.inflation.0 < lift
  ready = l.ready

  -- it can be served then
  pub servable : Servable b q v entry free events at
  servable = record {
    running = l.running;
    few = omega (arith, h.few, ap (λ (y : Totals). y.requests) l.totals);
    ranged = subst (λ (s : Settings). Ranged s.catalogue.0 q) (sym l.settings) h.ranged;
    room = omega (arith, h.room, l.files);
  }

  abbrev d : ℕ
  d = b.lifts * lift

  abbrev x : Served State
  x = step (policy_in b.settings) (store_of b.settings) (state_of b v) q

  -- what the method gives from the whole state
  whole_is : whole_step a t q ≡ whole_served d x
  whole_is =
      (λ i. step (policy_in (sym l.settings i)) (store_of (sym l.settings i)) (sym l.whole i) q)
      ∙ step_whole (policy_in b.settings) (store_of b.settings) d (state_of b v) q

  -- the tally by the words is that of the whole state less the lifts
  tally_is : after b x ≡ whole_tally a (lifted a.lifts (whole_of a t).inflation) (whole_served d x).state (counted (totals_of a) (whole_served d x).reply)
  tally_is =
      let e : x.state.inflation ≡ d + x.state.inflation - d = omega arith in
      (λ i. tallied_at b b.lifts (e i) (sym (sum_raise (λ r. r.size) d (λ r. refl) x.state.shelf) i) (sym (sum_raise (λ r. 1) d (λ r. refl) x.state.shelf) i)
      (sym (counted_whole d (totals_of b) x.reply) i))
      ∙ ap (λ (s : Settings). settled s b.lifts (totals_of b)) l.settings
      ∙ (λ i. settled a.settings (l.lifts i) (l.totals i))
    where
      -- of a tally only the settings go into it
      settled : Settings → ℕ → Totals → Tally
      settled s k y = whole_tally (fresh_tally s) k (whole_served d x).state (counted y (whole_served d x).reply)

  module _ {r : Step} {u : Tables} {entry' free' events' : List ℕ} (s : Near b q v events at r u entry' free' events') where
    state_is : whole_of r.tally u ≡ (whole_step a t q).state
    state_is =
        ap (λ (y : Tally). whole_of y u) s.serves.tally
        ∙ ap (whole d) (next_state b v entry free l.running q servable.ranged servable.few l.ready u s.serves.shelf)
        ∙ ap (λ (y : Served State). y.state) (sym whole_is)

    told_is : entries q x.reply ≡ entries q (whole_step a t q).reply
    told_is = sym (entries_whole d q x.reply) ∙ ap (λ (y : Served State). entries q y.reply) (sym whole_is)

    pub stepped : Stepped a q t events at r u entry' free' events'
    stepped = record {
      outcome = s.serves.outcome ∙ ap (λ (y : Served State). y.reply.outcome) (sym whole_is);
      tally =
          s.serves.tally ∙ tally_is
          ∙ ap (λ (y : Served State). whole_tally a (lifted a.lifts (whole_of a t).inflation) y.state (counted (totals_of a) y.reply)) (sym whole_is);
      state = state_is;
      written = s.serves.written ∙ ap (sets events at) told_is;
      count = s.serves.count ∙ ap (λ (es : List ℕ). at + length es) told_is;
      running = s.running;
      past = subst (λ (c : Settings). beyond_of c u ≡ beyond_of c v) l.settings s.serves.past ∙ l.past;
    }
