-- A newcomer enters: what its steps ask, and what they leave together. Assumes nothing.
use mathlib.Core.Path.{◌≡◌, refl, sym, ap, ◌∙◌, subst, subst₂}
use mathlib.Core.Logic.{⊎_elim}
use mathlib.Core.List.{List}
use Prim.Native.Nat.{ℕ, zero, suc, ◌+◌, ◌-◌, ◌≤◌, ◌<◌}
use native.Mathlib.Omega.{arith}
use lib.ListN.{length, get_or, set, length-set, length-map}
use lib.Seq.{sets, get_or-set_same, get_or-set_other}
use Rattle.amounts.specs.Limits.{no_place}
use Rattle.amounts.specs.Worth.{Valued}
use Rattle.amounts.specs.Requests.{Request}
use Rattle.amounts.specs.declared.settings.Settings.{Settings}
use Rattle.amounts.proofs.Tests.{same}
use Rattle.queue.specs.Queue.{times, Insertable, Inserted}
use Rattle.queue.proofs.Totals.{times_found, Found}
use Rattle.method.specs.Shelf.{Kept, none, kept, Shelf}
use Rattle.method.specs.Events.{evict}
use Rattle.method.specs.declared.outcome.Outcome.TheVariants.{Admitted}
use Rattle.tables.specs.Tables.{Tables, shelf_of}
use Rattle.tables.specs.Tally.{totals_of}
use Rattle.tables.specs.Sound.{At, Occupied}
use Rattle.tables.specs.declared.tally.Tally.{Tally}
use Rattle.tables.proofs.Shelves.{shelf_at, shelf_length, slot_none}
use Rattle.shelving.specs.Live.{Live, Stack}
use Rattle.shelving.specs.Evicting.{with_queue, behind, last_place, drop_last, drop_all, Dropped}
use Rattle.shelving.specs.Records.{seven, Within, kept_of, Keepable, Keeps}
use Rattle.shelving.specs.Telling.{Tellable, Told}
use Rattle.shelving.specs.declared.records.Kept as records
use Rattle.shelving.specs.declared.room.Room.{Room}
use Rattle.shelving.proofs.Links.{at_occupied}
use Rattle.shelving.proofs.Lives.{live_keep, stack_keep}
use Rattle.shelving.proofs.Dropping.{AllDropped, all_dropped}
use Rattle.shelving.proofs.Tellings.{evictions_behind}
use Rattle.counting.specs.Counting.{after, admit_totals}
use Rattle.newcomer.specs.Newcomer.{new_record, gone_for, admitted_tally}
use Rattle.admitting.specs.Deciding.{beyond_of, Met}
use Rattle.admitting.specs.Admitting.{gone_in, left_in, Enterable, enters}
use Rattle.shelving.proofs.Beyond.{drop_same, beyond_all}
use Rattle.admitting.proofs.Putting.{kept_at, put}
use Rattle.admitting.proofs.Meetings.{met_as}
use Rattle.admitting.proofs.Tallies.{admit_totals_lem, admit_kept, tallied_after}

-- ---- what the steps ask

module _ {s : Settings} {n m : ℕ} {t : Tables} {entry : List ℕ} (h : Live s n m t entry) where
  pub live_tellable : (events : List ℕ) (at : ℕ) → at + n ≤ length events → Tellable n m t.file t.queue events at
  live_tellable events at room =
      record {
        part = h.part;
        long = omega (arith, h.few, h.long.queue);
        filed = λ i _ b. omega (arith, (h.queued.entries i b).inside, h.long.file);
        known = λ i _ b. omega (arith, (h.queued.entries i b).known, h.catalogue);
        room = omega (arith, h.part);
      }

pub length_behind : (t : Tables) (n k : ℕ) → length (behind t n k) ≡ k
unfolding behind
length_behind t n zero = refl
length_behind t n (suc k) = ap suc (length_behind t (n - 1) k)

-- a file without a place has none afterwards either
out_all : (k n : ℕ) (t : Tables) (f cat : ℕ) → f < cat → cat ≤ length t.place → get_or t.place f 0 ≡ no_place → get_or (drop_all k n t).place f 0 ≡ no_place
unfolding drop_all
out_all zero n t f cat b l e = e
out_all (suc k) n t f cat b l e =
    let g : ℕ = get_or t.file (last_place n t) 0 in
    out_all k (n - 1) (drop_last n t) f cat b (simp length-set l)
    (⊎_elim
    (λ z. subst (λ (j : ℕ). get_or (set t.place g no_place) j 0 ≡ no_place) (sym z) (get_or-set_same t.place g no_place 0 (omega arith)))
    (λ ne. get_or-set_other t.place g f no_place 0 ne ∙ e)
    (same f g))

-- ---- a file kept at the free place on top

-- what is left then
record Topped (s : Settings) (m f : ℕ) (k : Kept) (t : Tables) (free : List ℕ) (u : Tables) (entry' : List ℕ) : Type 0 where
  live : Live s (m + 1) (m + 1) u entry'
  stack : Stack s (m + 1) u free
  shelf : shelf_of s.catalogue.0 u ≡ set (shelf_of s.catalogue.0 t) f (kept k)
  past : beyond_of s u ≡ beyond_of s t

module _ {s : Settings} {m : ℕ} {t : Tables} {entry free : List ℕ} (h : Live s m m t entry) (st : Stack s m t free) (room : m < s.places.0) where
  abbrev top : ℕ
  top = get_or free (s.places.0 - m - 1) 0

  top_in : top < s.places.0
  top_in = (st.spare.unused (s.places.0 - m - 1) (omega arith)).0

  top_free : Occupied s t top → ⊥
  top_free = (st.spare.unused (s.places.0 - m - 1) (omega arith)).1

  top_unheld : times top t.queue m ≡ 0
  top_unheld = ⊎_elim (λ e. e) (λ ne. absurd (found (times_found _ t.queue m (omega arith)))) (same (times top t.queue m) 0)
    where
      found : Found top t.queue m → ⊥
      found w = top_free (subst (Occupied s t) w.is (h.queued.entries w.entry w.before))

  top_insertable : Insertable t.queue entry t.key t.stamp m top
  top_insertable =
      record {
        whole = h.whole;
        room = omega (arith, h.long.queue);
        few = omega (arith, h.places);
        entries = omega (arith, top_in, h.entry_long);
        keyed = omega (arith, top_in, h.long.key);
        stamped = omega (arith, top_in, h.long.stamp);
        fresh = top_unheld;
      }

  module _ (f : ℕ) (known : f < s.catalogue.0) where
    top_within : Within top f (seven t.place t.file t.size t.cost t.freq t.key t.stamp)
    top_within =
        record {
          place = omega (arith, h.long.place);
          file = omega (arith, top_in, h.long.file);
          size = omega (arith, top_in, h.long.size);
          cost = omega (arith, top_in, h.long.cost);
          freq = omega (arith, top_in, h.long.freq);
          key = omega (arith, top_in, h.long.key);
          stamp = omega (arith, top_in, h.long.stamp);
        }

    module _ (out : get_or t.place f 0 ≡ no_place) (k : Kept) (p : ℕ) (is-p : p ≡ top) (q entry' : List ℕ)
        (r : Inserted t.queue q entry entry' (set t.key p k.key) (set t.stamp p k.stamp) m p) where
      abbrev u : Tables
      u = kept_at p f k t q

      p_in : p < s.places.0
      p_in = omega (arith, is-p, top_in)

      p_free : Occupied s t p → ⊥
      p_free o = top_free (subst (Occupied s t) is-p o)

      topped : Topped s m f k t free u entry'
      topped =
          let y = put s p f k t q h.places h.long p_in known in
          record {
            live =
                live_keep s m f p t u entry entry' free h st room out (sym is-p) y.but y.at r.held r.apart.past (y.long r.apart.long) r.apart.entries r.whole;
            stack = stack_keep s m f p t u entry entry' free h st room out (sym is-p) y.but y.at r.held r.apart.past;
            shelf =
                y.shelf
                (λ j b ne e. ⊎_elim (λ z. omega (arith, p_in, h.places)) (λ c. p_free (at_occupied s t j p (subst (At s t j) e c))) (h.linked.out j b));
            past = y.past (drop_same t.queue q (m + 1) s.places.0 r.apart.long (omega arith) r.apart.past);
          }

-- ---- together

-- what is left when the files behind the queue are gone
record Emptied (a : Tally) (q : Request) (room : Room) (t : Tables) (entry : List ℕ) (t₁ : Tables) (free₁ : List ℕ) : Type 0 where
  live : Live a.settings room.left room.left t₁ entry
  stack : Stack a.settings room.left t₁ free₁
  shelf : shelf_of a.settings.catalogue.0 t₁ ≡ left_in a room t
  out : get_or t₁.place q.file 0 ≡ no_place
  past : beyond_of a.settings t₁ ≡ beyond_of a.settings t

module _ {a : Tally} {q : Request} {room : Room} {t : Tables} {entry free events : List ℕ} {at : ℕ} (h : Enterable a q room t entry free events at) where
  abbrev s : Settings
  s = a.settings

  emptied : {t₁ : Tables} {free₁ : List ℕ} → Dropped a.settings a.files_kept room.left t free t₁ free₁ → Emptied a q room t entry t₁ free₁
  emptied d =
      let n : ℕ = a.files_kept in
      let m : ℕ = room.left in
      let k : ℕ = gone_for a room in
      let e : m + k ≡ n = omega (arith, h.live.part) in
      let r : AllDropped s n m k t entry free = all_dropped s n m k t entry free e h.live h.stack in
      record {
        live = subst (λ (x : Tables). Live s m m x entry) (sym d.lent) r.live;
        stack = rw (d.lent, d.stack) r.stack;
        shelf = ap (shelf_of s.catalogue.0) d.lent ∙ r.shelf;
        out = ap (λ (x : Tables). get_or x.place q.file 0) d.lent ∙ out_all k n t q.file s.catalogue.0 h.known h.live.long.place h.out;
        past = ap (beyond_of s) d.lent ∙ beyond_all s n m k t entry e h.live;
      }

  module _ {t₁ : Tables} {free₁ : List ℕ} (d : Dropped a.settings a.files_kept room.left t free t₁ free₁) {places p : ℕ} (is-places : places ≡ a.settings.places.0)
      (is-p : p ≡ get_or free₁ (places - room.left - 1) 0) {k : records.Kept} (is-k : kept_of k ≡ new_record a q.size q.cost room) where
    x : Emptied a q room t entry t₁ free₁
    x = emptied d

    on_top : p ≡ top x.live x.stack h.one
    on_top = is-p ∙ ap (λ (n : ℕ). get_or free₁ (n - room.left - 1) 0) is-places

    pub keepable : Keepable room.left p q.file k (seven t₁.place t₁.file t₁.size t₁.cost t₁.freq t₁.key t₁.stamp) t₁.queue entry
    keepable =
        let v : Valued q.size q.cost = h.worthy.valued in
        record {
          within = rw on_top (top_within x.live x.stack h.one q.file h.known);
          holdable =
              record {
                place = omega (arith, on_top, top_in x.live x.stack h.one, h.live.places);
                file = omega (arith, h.known, h.live.catalogue);
                size = omega (arith, ap (λ (r : Kept). r.size) is-k, v.size_at_most);
                cost = omega (arith, ap (λ (r : Kept). r.cost) is-k, v.cost_at_most);
                freq = omega (arith, ap (λ (r : Kept). r.freq) is-k);
              };
          insertable = rw on_top (top_insertable x.live x.stack h.one);
        }

    -- its tally: it stands in a slot that was free
    entered_tally : admitted_tally a q.size q.cost room ≡ after a (enters a q room t)
    entered_tally =
        let cat : ℕ = s.catalogue.0 in
        let long : cat ≤ length t₁.place = x.live.long.place in
        let free-slot : get_or (shelf_of cat t₁) q.file none ≡ none = shelf_at cat t₁ q.file h.known long ∙ slot_none t₁ _ x.out in
        let inside : q.file < length (shelf_of cat t₁) = omega (arith, shelf_length cat t₁ long, h.known) in
        let sums = admit_kept (left_in a room t) q.file (new_record a q.size q.cost room) (rw x.shelf at free-slot) (rw x.shelf at inside) in
        let gone : length (gone_in a room t) ≡ gone_for a room = length_behind t a.files_kept (gone_for a room) in
        tallied_after a (enters a q room t) (sums.0 ∙ ap (λ (b : ℕ). b + q.size) h.bytes) (sums.1 ∙ ap (λ (n : ℕ). n + 1) h.files)
        (ap (λ (g : ℕ). admit_totals (totals_of a) q.size q.cost g) (sym gone) ∙ admit_totals_lem (totals_of a) q.size q.cost (gone_in a room t))

    -- the tables with the newcomer, and the evictions told
    pub entered : (u : Tables) {entry' events' : List ℕ} {b : Tally}
        → Keeps room.left p q.file k (seven t₁.place t₁.file t₁.size t₁.cost t₁.freq t₁.key t₁.stamp)
        (seven u.place u.file u.size u.cost u.freq u.key u.stamp) t₁.queue entry u.queue entry'
        → Told a.files_kept room.left t.file t.queue events at events' → b ≡ admitted_tally a q.size q.cost room
        → Met a t events at (enters a q room t) (record { outcome = Admitted; tally = b; due = at + gone_for a room }) u entry' free₁ events'
    entered u {entry'} ks told e =
        let m : ℕ = room.left in
        let new : Kept = new_record a q.size q.cost room in
        let lent : u ≡ kept_at p q.file new t₁ u.queue = ap (with_queue u.queue) ks.lent ∙ ap (λ (w : Kept). kept_at p q.file w t₁ u.queue) is-k in
        let ins : Inserted t₁.queue u.queue entry entry' (set t₁.key p new.key) (set t₁.stamp p new.stamp) m p =
        subst₂ (λ ks ss. Inserted t₁.queue u.queue entry entry' ks ss m p) (ap (λ (w : Tables). w.key) lent) (ap (λ (w : Tables). w.stamp) lent) ks.inserted in
        let y : Topped s m q.file new t₁ free₁ u entry' =
        subst (λ (w : Tables). Topped s m q.file new t₁ free₁ w entry') (sym lent)
        (topped x.live x.stack h.one q.file h.known x.out new p on_top u.queue entry' ins) in
        let gone : length (gone_in a room t) ≡ gone_for a room = length_behind t a.files_kept (gone_for a room) in
        met_as refl e
        (record {
          outcome = refl;
          tally = entered_tally;
          shelf = y.shelf ∙ ap (λ (w : Shelf). set w q.file (kept new)) x.shelf;
          few = omega (arith, gone);
          written = told.written ∙ ap (sets events at) (evictions_behind t a.files_kept (gone_for a room));
          count = omega (arith, gone, length-map (gone_in a room t) evict);
          live = y.live;
          stack = y.stack;
          past = y.past ∙ x.past;
        })
