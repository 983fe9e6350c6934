-- A request with its cost in force: what is known before it is decided, and a pass, which changes nothing but the tally. Assumes nothing.
use mathlib.Core.Path.{◌≡◌, refl, sym, ◌∙◌, subst₂}
use mathlib.Core.List.{List, []}
use Prim.Native.Nat.{ℕ, suc, ◌≤◌, ◌<◌}
use native.Mathlib.Omega.{arith}
use lib.ListN.{length, get_or, drop}
use borrow.Author.Tests.{le-ltb}
use Rattle.amounts.specs.Limits.{no_place, word}
use Rattle.amounts.specs.Requests.{Request}
use Rattle.amounts.specs.declared.settings.Settings.{Settings}
use Rattle.amounts.proofs.Tests.{pick_false}
use Rattle.method.specs.Shelf.{none, Shelf, Each}
use Rattle.method.specs.Method.{Policy, State, Served, served, missed}
use Rattle.method.specs.Method as method
use Rattle.method.specs.Promise.{SoundAt}
use Rattle.method.specs.declared.outcome.Pass.{Pass}
use Rattle.method.specs.declared.outcome.Outcome.{Outcome}
use Rattle.method.specs.declared.outcome.Outcome.TheVariants.{Passed}
use Rattle.method.proofs.Sound.{meet_sound}
use Rattle.method.proofs.Lifts.{keys_fit, meet_rises}
use Rattle.tables.specs.Tables.{Tables, slot_of, shelf_of}
use Rattle.tables.specs.Tally.{store_of, policy_in, stamp_of, state_of, totals_of}
use Rattle.tables.specs.declared.tally.Tally.{Tally}
use Rattle.tables.proofs.Near.{near}
use Rattle.tables.proofs.Shelves.{shelf_at, shelf_length, shelf_queue, slot_none}
use Rattle.shelving.specs.Live.{Live}
use Rattle.shelving.specs.Evicting.{with_queue}
pub use Rattle.shelving.proofs.Runnings.{live, stack, queue_stack, one_place, held_bytes}
use Rattle.counting.specs.Counting.{pass_tally, Countable}
use Rattle.admitting.specs.Deciding.{Met, Meetable, meets}
use Rattle.admitting.specs.Admitting.{admits}
use Rattle.shelving.proofs.Beyond.{beyond_queue}
use Rattle.admitting.proofs.Tallies.{pass_totals_lem, tallied_after}

-- ---- a request

-- what is met stays so at equal values
pub met_as : {a b c : Tally} {t u : Tables} {events entry' free' events' : List ℕ} {at due : ℕ} {x y : Served State} {o : Outcome} → y ≡ x → b ≡ c
    → Met a t events at x (record { outcome = o; tally = c; due = due }) u entry' free' events' → Met a t events at y (record { outcome = o; tally = b; due = due }) u entry' free' events'
met_as {a} {t = t} {u} {events} {entry'} {free'} {events'} {at} {due} {o = o} e f m =
    subst₂ (λ y b. Met a t events at y (record { outcome = o; tally = b; due = due }) u entry' free' events') (sym e) (sym f) m

module _ {a : Tally} {q : Request} {t : Tables} {entry free events : List ℕ} {at : ℕ} (h : Meetable a q t entry free events at) where
  abbrev s : Settings
  s = a.settings

  abbrev cat : ℕ
  cat = a.settings.catalogue.0

  abbrev shelf : Shelf
  shelf = shelf_of a.settings.catalogue.0 t

  abbrev policy : Policy
  policy = policy_in a.settings

  abbrev store : method.Settings
  store = store_of a.settings

  pub sound : SoundAt policy store (state_of a t) a.requests
  sound = near h.running.sound

  pub slot : get_or shelf q.file none ≡ slot_of t (get_or t.place q.file 0)
  slot = shelf_at cat t q.file h.known h.running.long.place

  pub slot_in : q.file < length shelf
  slot_in = omega (arith, shelf_length cat t h.running.long.place, h.known)

  pub countable : Countable a q.size q.cost
  countable = record { few = h.few; agreed = h.running.sound.agreed; valued = h.valued }

  -- no key overflows, before the request and after it
  pub keys_before : Each (λ r. r.key < word) shelf
  keys_before = keys_fit policy store a.inflation.0 shelf (stamp_of a) a.requests sound (omega (arith, h.running.sound.low))

  pub keys_after : Each (λ r. r.key < word) (meets a q t).state.shelf
  keys_after =
      keys_fit policy store _ _ _ (suc a.requests) (meet_sound policy store (one_place h.running) a.inflation.0 shelf (stamp_of a) a.requests sound q h.valued)
      (omega (arith, h.running.sound.low, (meet_rises policy store a.inflation.0 shelf (stamp_of a) a.requests sound q h.valued).most))

  -- a pass, for whatever reason: the queue may stand in another order
  abbrev pub passed : Pass → Served State
  passed w = served a.inflation.0 shelf (stamp_of a) (missed q [] (Passed w))

  pub passes : (w : Pass) {x : Served State} → x ≡ passed w → (queue' entry' : List ℕ) → Live s a.files_kept a.files_kept (with_queue queue' t) entry'
      → drop s.places.0 queue' ≡ drop s.places.0 t.queue → {b : Tally} → b ≡ pass_tally a q.size q.cost
      → Met a t events at x (record { outcome = Passed w; tally = b; due = at }) (with_queue queue' t) entry' free events
  passes w y queue' entry' l past e =
      met_as y e
      (record {
        outcome = refl;
        tally = tallied_after a (passed w) h.running.sound.bytes h.running.sound.files (pass_totals_lem (totals_of a) q.size q.cost w);
        shelf = shelf_queue cat (with_queue queue' t) t refl refl refl refl refl refl;
        few = omega arith;
        written = refl;
        count = omega arith;
        live = l;
        stack = queue_stack h.running queue';
        past = beyond_queue s t queue' past;
      })

  -- ---- a file that is not kept

  module _ (out : get_or t.place q.file 0 ≡ no_place) where
    pub slot_free : get_or shelf q.file none ≡ none
    slot_free = slot ∙ slot_none t (get_or t.place q.file 0) out

    pub small_as : q.size ≤ s.capacity.0 → meets a q t ≡ admits a q t
    small_as b = rw slot_free (pick_false _ _ (le-ltb s.capacity.0 q.size b))
