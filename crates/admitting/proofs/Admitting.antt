-- The admission: what making room came to is what the method gives. Assumes nothing.
use mathlib.Core.Path.{◌≡◌, refl, sym, ap, ◌∙◌, subst}
use mathlib.Core.Bool.{Bool, true, false, ◌&&◌}
use mathlib.Core.List.{List, [], ◌∷◌}
use Prim.Native.Nat.{ℕ, ◌+◌, ◌-◌, ◌≤◌, ◌<◌}
use native.Mathlib.Omega.{arith}
use lib.Dec.{leb}
use lib.ListN.{length, get_or, set, drop, length-set}
use lib.Seq.{get_or-set_same}
use borrow.Author.Tests.{leb-true}
use Rattle.amounts.specs.Limits.{word}
use Rattle.amounts.specs.Worth.{product_of}
use Rattle.amounts.specs.Requests.{Request}
use Rattle.amounts.proofs.Values.{product_lift}
use Rattle.method.specs.Shelf.{none, kept, Shelf, bytes, files, Each}
use Rattle.method.specs.Method.{Policy, gds, gdsf, Gone, State, Served, served, missed, keyed, newcomer, admit}
use Rattle.method.specs.Method as method
use Rattle.method.specs.declared.outcome.Pass.TheVariants.{LowKey}
use Rattle.method.specs.declared.outcome.Outcome.TheVariants.{Admitted, Passed}
use Rattle.tables.specs.Tables.{Tables, shelf_of}
use Rattle.tables.specs.Tally.{store_of, policy_in, stamp_of}
use Rattle.tables.specs.declared.tally.Tally.{Tally}
use Rattle.tables.proofs.Ranges.{bounded}
use Rattle.tables.proofs.Shelves.{shelf_length, shelf_queue}
use Rattle.shelving.specs.Taking.{Aside, aside}
use Rattle.shelving.specs.Live.{Live}
use Rattle.shelving.specs.Room.{room_for, Roomless, Made, IsLow, none, Apiece, Again}
use Rattle.shelving.specs.Evicting.{with_queue, without}
use Rattle.shelving.specs.declared.room.Room.{Room}
use Rattle.shelving.specs.declared.room.Low.{Low}
use Rattle.shelving.proofs.MakingRoom.{Newest, admit₁, admit₂}
use Rattle.shelving.proofs.Lives.{live_same}
use Rattle.shelving.proofs.Popping.{Stopped, stopped, Taken, taken, aside_without}
use Rattle.counting.specs.Counting.{pass_tally}
use Rattle.newcomer.specs.Newcomer.{limit_of, base_of, new_record}
use Rattle.admitting.specs.Deciding.{Met, meets, beyond_of}
use Rattle.admitting.specs.Admitting.{Admissible, admits, gone_in, left_in, Enterable, enters}
use Rattle.admitting.specs.declared.untold.Untold.{Untold}
use Rattle.shelving.proofs.Beyond.{drop_same, beyond_queue}
use Rattle.admitting.proofs.Meetings as meetings

-- ---- either policy, from what is set aside up to its limit

module _ (c : method.Settings) (l : ℕ) (s : Shelf) (t : ℕ) (q : Request) (small : q.size ≤ c.capacity) (one : 1 ≤ c.places)
    (new : Newest q.file (keyed l q.size q.cost 1 t) s) (keys : Each (λ r. r.key ≤ word - 1) s) where
  -- what is set aside
  abbrev room : Policy → Aside
  room p = aside c q.size (limit_of p (l + product_of 1 q.size q.cost)) (length s) l s

  admit_stays : (p : Policy) → (room p).low ≡ false
      → admit p c l s t q
      ≡ served (room p).inflation (set (room p).shelf q.file (newcomer (base_of p l (room p).inflation) q t)) t (missed q (room p).gone Admitted)
  admit_stays gds e = (admit₁ c l s t q small one (word - 1) keys).1
  admit_stays gdsf e = (admit₂ c l s t q small one new).0 e

  admit_low : (p : Policy) → (room p).low ≡ true → admit p c l s t q ≡ served l s t (missed q [] (Passed LowKey))
  admit_low gds e =
      let x : true ≡ false = sym e ∙ (admit₁ c l s t q small one (word - 1) keys).0 in
      let k : ◌≡◌ {A = ℕ} 0 1 = cc in absurd (omega arith)
  admit_low gdsf e = (admit₂ c l s t q small one new).1 e

-- room, as numbers
room_true : (capacity places b m z : ℕ) → room_for capacity places b m z ≡ true → (b + z ≤ capacity) × (m + 1 ≤ places)
unfolding room_for
room_true capacity places b m z e = go (leb (b + z) capacity) refl e
  where
    go : (x : Bool) → leb (b + z) capacity ≡ x → (x && leb (m + 1) places) ≡ true → (b + z ≤ capacity) × (m + 1 ≤ places)
    go true f e = (leb-true _ _ f, leb-true _ _ e)
    go false f e = let k : ◌≡◌ {A = ℕ} 0 1 = cc in absurd (omega arith)

length_without : (gs : List Gone) (x : Shelf) → length (without gs x) ≡ length x
unfolding without
length_without [] x = refl
length_without (g ∷ gs) x = length_without gs (set x g.file none) ∙ simp length-set

-- ---- a newcomer, at sound tables

module _ {a : Tally} {q : Request} {t : Tables} {entry free events : List ℕ} {at : ℕ} (h : Admissible a q t entry free events at) where
  abbrev shelf : Shelf
  shelf = shelf_of a.settings.catalogue.0 t

  abbrev store : method.Settings
  store = store_of a.settings

  abbrev policy : Policy
  policy = policy_in a.settings

  abbrev limit : ℕ
  limit = limit_of policy (a.inflation.0 + product_of 1 q.size q.cost)

  abbrev made : Aside
  made = aside store q.size limit (length shelf) a.inflation.0 shelf

  live : Live a.settings a.files_kept a.files_kept t entry
  live = meetings.live h.meetable.running

  newest : Newest q.file (keyed a.inflation.0 q.size q.cost 1 (stamp_of a)) shelf
  newest =
      let y = meetings.sound h.meetable in
      record { inside = meetings.slot_in h.meetable; free = meetings.slot_free h.meetable h.out; stamps = y.stamps; apart = y.apart }

  keys_small : Each (λ r. r.key ≤ word - 1) shelf
  keys_small i r e = omega (arith, meetings.keys_before h.meetable i r e)

  stays_as : made.low ≡ false
      → admits a q t
      ≡ served made.inflation (set made.shelf q.file (newcomer (base_of policy a.inflation.0 made.inflation) q (stamp_of a))) (stamp_of a) (missed q made.gone Admitted)
  stays_as e = admit_stays store a.inflation.0 shelf (stamp_of a) q h.small (meetings.one_place h.meetable.running) newest keys_small policy e

  low_as : made.low ≡ true → admits a q t ≡ served a.inflation.0 shelf (stamp_of a) (missed q [] (Passed LowKey))
  low_as e = admit_low store a.inflation.0 shelf (stamp_of a) q h.small (meetings.one_place h.meetable.running) newest keys_small policy e

  -- ---- what making room asks

  pub key_fits : a.inflation.0 + product_of 1 q.size q.cost < word
  key_fits = omega (arith, h.meetable.running.sound.low, product_lift 1 q.size q.cost h.meetable.valued (omega arith))

  pub roomless : Roomless a q.size t.size t.key t.stamp t.queue entry
  roomless =
      let run = h.meetable.running in
      record {
        whole = live.whole;
        sized = λ i b. omega (arith, (live.queued.entries i b).inside, run.long.size);
        bytes = meetings.held_bytes run;
        fits = omega (arith, run.sound.bytes, (meetings.sound h.meetable).bytes, h.small, (bounded a.settings run.ranged).capacity.1);
        small = h.small;
        one = meetings.one_place h.meetable.running;
      }

  -- ---- what was set aside, up to the limit k

  module _ {k : ℕ} (is-k : k ≡ limit) where
    -- ---- where the newcomer is low: it is put back

    module _ {queue₁ entry₁ : List ℕ} {r : Low} (y₀ : IsLow a q.size k t.size t.key t.stamp t.queue entry queue₁ entry₁ r) where
      y : IsLow a q.size limit t.size t.key t.stamp t.queue entry queue₁ entry₁ r
      y = subst (λ (x : ℕ). IsLow a q.size x t.size t.key t.stamp t.queue entry queue₁ entry₁ r) is-k y₀

      lowly : Taken a.settings a.files_kept t entry q.size limit a.inflation.0 a.bytes_kept.0 live
          (meetings.sound h.meetable).apart h.meetable.running.sound.files h.meetable.running.sound.bytes queue₁ entry₁ r.left
      lowly = taken _ _ _ _ _ _ _ _ live _ _ _ y.left.popped y.left.whole y.full y.some y.above

      pub apiece : Apiece queue₁ entry₁ t.key t.stamp a.files_kept r.left
      apiece =
          let v : Live a.settings a.files_kept r.left (with_queue queue₁ t) entry₁ = lowly.live in
          record {
            whole = v.whole;
            part = v.part;
            few = omega (arith, v.few, v.places);
            long = omega (arith, v.few, v.long.queue);
            entries = λ i b. omega (arith, (v.queued.entries i b).inside, v.entry_long);
            keyed = λ i b. omega (arith, (v.queued.entries i b).inside, v.long.key);
            stamped = λ i b. omega (arith, (v.queued.entries i b).inside, v.long.stamp);
            once = λ i b. omega (arith, v.queued.once (get_or queue₁ i 0) (v.queued.entries i b));
          }

      -- nothing but the queue's arrangement has changed
      pub lows : {queue₂ entry₂ : List ℕ} {b : Tally} → Again queue₁ entry₁ queue₂ entry₂ t.key t.stamp a.files_kept → b ≡ pass_tally a q.size q.cost
          → Met a t events at (admits a q t) (record { outcome = Passed LowKey; tally = b; due = at }) (with_queue queue₂ t) entry₂ free events
      lows {queue₂} {entry₂} g tl =
          let u : Tables = with_queue queue₂ t in
          let v : Live a.settings a.files_kept r.left (with_queue queue₁ t) entry₁ = lowly.live in
          let l = v.long in
          let settled : Live a.settings a.files_kept a.files_kept u entry₂ =
          live_same a.settings a.files_kept r.left (with_queue queue₁ t) u entry₁ entry₂ v refl refl
          (λ p _. record { file = refl; size = refl; cost = refl; freq = refl; key = refl; stamp = refl }) a.files_kept (omega arith)
          (record { place = l.place; file = l.file; size = l.size; cost = l.cost; freq = l.freq; key = l.key; stamp = l.stamp; queue = omega (arith, l.queue, g.apart.long) })
          g.apart.entries g.held g.apart.past g.whole in
          let past : drop a.settings.places.0 queue₂ ≡ drop a.settings.places.0 t.queue =
          drop_same t.queue queue₂ a.files_kept a.settings.places.0 (g.apart.long ∙ y.left.apart.long) live.few (λ i b. g.apart.past i b ∙ y.left.apart.past i b) in
          meetings.passes h.meetable LowKey (low_as lowly.low) queue₂ entry₂ settled past tl

    -- ---- where there is room: it is evicted

    module _ {queue₁ entry₁ : List ℕ} {r : Room} (y₀ : Made a q.size k t.size t.key t.stamp t.queue entry queue₁ entry₁ r) where
      abbrev t₁ : Tables
      t₁ = with_queue queue₁ t

      made_room : Made a q.size limit t.size t.key t.stamp t.queue entry queue₁ entry₁ r
      made_room = subst (λ (x : ℕ). Made a q.size x t.size t.key t.stamp t.queue entry queue₁ entry₁ r) is-k y₀

      stays : Stopped a.settings a.files_kept t entry q.size limit a.inflation.0 a.bytes_kept.0 live
          (meetings.sound h.meetable).apart h.meetable.running.sound.files h.meetable.running.sound.bytes queue₁ entry₁
          r.left r.inflation.0 r.bytes.0
      stays = stopped _ _ _ _ _ _ _ _ live _ _ _ made_room.left.popped made_room.room

      has_room : (r.bytes.0 + q.size ≤ a.settings.capacity.0) × (r.left + 1 ≤ a.settings.places.0)
      has_room = room_true a.settings.capacity.0 a.settings.places.0 r.bytes.0 r.left q.size made_room.room

      left_as : made.shelf ≡ left_in a r t₁
      left_as =
          aside_without store q.size limit (length shelf) a.inflation.0 shelf
          ∙ (λ i. without (stays.gone i) (shelf_queue a.settings.catalogue.0 t t₁ refl refl refl refl refl refl i))

      enters_as : admits a q t ≡ enters a q r t₁
      enters_as =
          stays_as stays.low
          ∙ (λ i. served (stays.inflation i) (set (left_as i) q.file (newcomer (base_of policy a.inflation.0 (stays.inflation i)) q (stamp_of a)))
          (stamp_of a) (missed q (stays.gone i) Admitted))

      -- the newcomer's key fits, as every key of the state that it makes
      new_key : (new_record a q.size q.cost r).key < word
      new_key =
          let made_so : meets a q t ≡ enters a q r t₁ = meetings.small_as h.meetable h.out h.small ∙ enters_as in
          let z : Each (λ r. r.key < word) (enters a q r t₁).state.shelf = subst (λ (x : Served State). Each (λ r. r.key < word) x.state.shelf) made_so (meetings.keys_after h.meetable) in
          let cat : ℕ = a.settings.catalogue.0 in
          let inside : q.file < length (left_in a r t₁) =
          omega (arith, h.meetable.known, length_without (gone_in a r t₁) (shelf_of cat t₁), shelf_length cat t₁ h.meetable.running.long.place) in
          z q.file (new_record a q.size q.cost r) (get_or-set_same (left_in a r t₁) q.file (kept (new_record a q.size q.cost r)) none inside)

      pub enterable : Enterable a q r t₁ entry₁ free events at
      enterable =
          record {
            live = stays.live;
            stack = meetings.queue_stack h.meetable.running queue₁;
            one = omega (arith, has_room.1);
            known = h.meetable.known;
            out = h.out;
            worthy = record { valued = h.meetable.valued; fits = new_key };
            admits =
                record {
                  countable = meetings.countable h.meetable;
                  part = stays.live.part;
                  weight = omega (arith, has_room.0, (bounded a.settings h.meetable.running.ranged).capacity.1);
                };
            bytes = ap bytes (sym left_as) ∙ stays.weight;
            files = ap files (sym left_as) ∙ stays.count;
            space = h.meetable.room;
          }

      -- and what entering leaves is the admission
      pub admitted : {w : Untold} {u : Tables} {entry' free' events' : List ℕ} → Met a t₁ events at (enters a q r t₁) w u entry' free' events'
          → Met a t events at (admits a q t) w u entry' free' events'
      admitted d =
          let past : beyond_of a.settings t₁ ≡ beyond_of a.settings t =
          beyond_queue a.settings t queue₁ (drop_same t.queue queue₁ a.files_kept a.settings.places.0 made_room.left.apart.long live.few made_room.left.apart.past) in
          meetings.met_as enters_as refl
          (record {
            outcome = d.outcome;
            tally = d.tally;
            shelf = d.shelf;
            few = d.few;
            written = d.written;
            count = d.count;
            live = d.live;
            stack = d.stack;
            past = d.past ∙ past;
          })
