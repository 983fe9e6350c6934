-- One request by cases: a hit, a file too big, a newcomer to be admitted. Assumes nothing.
use mathlib.Core.Path.{◌≡◌, refl, sym, ap, ◌∙◌, subst}
use mathlib.Core.Logic.{⊎_elim}
use mathlib.Core.List.{List}
use Prim.Native.Nat.{ℕ, ◌≤◌, ◌<◌}
use native.Mathlib.Omega.{arith}
use lib.ListN.{get_or, set}
use lib.Seq.{get_or-set_same, set-get_or}
use borrow.Author.Tests.{lt-ltb}
use Rattle.amounts.specs.Limits.{no_place, word}
use Rattle.amounts.specs.Requests.{Request}
use Rattle.amounts.specs.declared.settings.Settings.{Settings}
use Rattle.amounts.proofs.Tests.{pick_true}
use Rattle.queue.proofs.Index.{held_entry}
use Rattle.method.specs.Method.{State, Served, keyed, again, hit}
use Rattle.method.specs.Promise.{Fine}
use Rattle.method.specs.Shelf.{Kept, none, kept, Shelf, Each}
use Rattle.method.specs.declared.outcome.Outcome.TheVariants.{Hit, Passed}
use Rattle.method.specs.declared.outcome.Pass.TheVariants.{TooBig}
use Rattle.tables.specs.Sound.{At, Occupied}
use Rattle.tables.specs.Tables.{Tables, Long, tables, record_at, shelf_of}
use Rattle.tables.specs.Tally.{policy_in, stamp_of, totals_of}
use Rattle.tables.specs.declared.tally.Tally.{Tally}
use Rattle.tables.proofs.Lengths.{tables_eq}
use Rattle.tables.proofs.Shelves.{slot_kept}
use Rattle.hitting.specs.Hitting.{Hittable, HitDone}
use Rattle.shelving.proofs.Links.{SameAt, at_file, at_occupied}
use Rattle.shelving.proofs.Lives.{live_same, stack_same}
use Rattle.counting.specs.Counting.{pass_tally}
use Rattle.admitting.specs.Admitting.{Admissible, admits}
use Rattle.admitting.specs.Deciding.{Met, Meetable, meets, beyond_of}
use Rattle.admitting.specs.declared.untold.Untold.{Untold}
use Rattle.shelving.proofs.Beyond.{drop_same}
use Rattle.admitting.proofs.Putting.{kept_at, Put, put}
use Rattle.admitting.proofs.Tallies.{hit_totals_lem, hit_kept, tallied_after}
use Rattle.admitting.proofs.Meetings as meetings

-- ---- a file that is kept: its record is set anew, and everything else stays

module _ {a : Tally} {q : Request} {t : Tables} {entry free events : List ℕ} {at : ℕ} (h : Meetable a q t entry free events at) (in-store : get_or t.place q.file 0 ≡ no_place → ⊥) where
  abbrev s : Settings
  s = a.settings

  abbrev n : ℕ
  n = a.files_kept

  abbrev shelf : Shelf
  shelf = shelf_of a.settings.catalogue.0 t

  -- its place, and what is kept there
  abbrev p : ℕ
  p = get_or t.place q.file 0

  abbrev old : Kept
  old = record_at t (get_or t.place q.file 0)

  abbrev new : Kept
  new = keyed a.inflation.0 old.size old.cost (again (policy_in a.settings) old.freq) (stamp_of a)

  at_p : At s t q.file p
  at_p = ⊎_elim (λ z. absurd (in-store z)) (λ x. x) (h.running.sound.linked.out q.file h.known)

  occupied : Occupied s t p
  occupied = at_occupied s t q.file p at_p

  slot_old : get_or shelf q.file none ≡ kept old
  slot_old = meetings.slot h ∙ slot_kept t p in-store

  abbrev struck : Served State
  struck = hit (policy_in s) a.inflation.0 shelf (stamp_of a) q.file old

  hits_as : meets a q t ≡ struck
  hits_as = rw slot_old

  fine : Fine (policy_in s) old
  fine = (meetings.sound h).fine q.file old slot_old

  -- the entry of the queue that holds the place
  held : (get_or entry p 0 < n) × (get_or t.queue (get_or entry p 0) 0 ≡ p)
  held = held_entry t.queue entry n h.running.desk.indexed p (omega (arith, h.running.sound.queued.once p occupied))

  -- the state after the hit is sound, so its key fits
  hittable : Hittable a p t.size t.cost t.freq t.key t.stamp t.queue entry
  hittable =
      let l = h.running.long in
      let z : Each (λ r. r.key < word) struck.state.shelf = subst (λ (x : Served State). Each (λ r. r.key < word) x.state.shelf) hits_as (meetings.keys_after h) in
      record {
        sized = omega (arith, at_p.inside, l.size);
        costed = omega (arith, at_p.inside, l.cost);
        counted = omega (arith, at_p.inside, l.freq);
        entered = omega (arith, at_p.inside, h.running.entry_long);
        valued = fine.valued;
        seldom = fine.seldom;
        fits = z q.file new (get_or-set_same shelf q.file (kept new) none (meetings.slot_in h));
        holding = record { whole = (meetings.live h.running).whole; inside = held.0 };
        countable = record { few = h.few; agreed = h.running.sound.agreed; valued = fine.valued };
      }

  pub hittable_at : {k : ℕ} → k ≡ p → Hittable a k t.size t.cost t.freq t.key t.stamp t.queue entry
  hittable_at e = rw e hittable

  module _ {freq' key' stamp' queue' entry' : List ℕ} {b : Tally}
      (d : HitDone a p t.size t.cost t.freq t.key t.stamp t.queue entry freq' key' stamp' queue' entry' b) where
    abbrev u : Tables
    u = tables t.place t.file t.size t.cost freq' key' stamp' queue'

    -- the record of the file is put anew where it stands
    lent : u ≡ kept_at p q.file new t queue'
    lent =
        tables_eq (sym (set-get_or t.place q.file 0)) (sym (set-get_or t.file p 0) ∙ ap (set t.file p) at_p.file) (sym (set-get_or t.size p 0))
        (sym (set-get_or t.cost p 0)) d.freqs (d.rekeyed.new_keys ∙ ap (λ (x : ℕ). set t.key x new.key) held.1)
        (d.rekeyed.new_stamps ∙ ap (λ (x : ℕ). set t.stamp x (stamp_of a)) held.1) refl

    anew : Put s p q.file new t queue'
    anew = put s p q.file new t queue' (meetings.live h.running).places h.running.long at_p.inside h.known

    other : (k : ℕ) → (Occupied s t k → ⊥) → SameAt t u k
    other k un = subst (λ (w : Tables). SameAt t w k) (sym lent) (anew.but.records k (λ e. un (subst (Occupied s t) (sym e) occupied)))

    strikes : Met a t events at (meets a q t) (record { outcome = Hit; tally = b; due = at }) u entry' free events
    strikes =
        let r = d.rekeyed in
        let l = meetings.live h.running in
        let sums = hit_kept shelf q.file old new slot_old refl (meetings.slot_in h) in
        let own : (j : ℕ) → j < s.catalogue.0 → (j ≡ q.file → ⊥) → get_or t.place j 0 ≡ p → ⊥ =
        λ j c ne e. ⊎_elim (λ z. in-store (sym e ∙ z)) (λ x. ne (at_file s t j q.file p (subst (At s t j) e x) at_p)) (h.running.sound.linked.out j c) in
        meetings.met_as hits_as d.tally
        (record {
          outcome = refl;
          tally =
              tallied_after a struck (sums.0 ∙ h.running.sound.bytes) (sums.1 ∙ h.running.sound.files) (hit_totals_lem (totals_of a) old.size old.cost);
          shelf = ap (shelf_of s.catalogue.0) lent ∙ anew.shelf own;
          few = omega arith;
          written = refl;
          count = omega arith;
          live =
              live_same s n n t u entry entry' l refl refl other n (omega arith) (subst (Long s.places.0 s.catalogue.0) (sym lent) (anew.long r.apart.long))
              r.apart.entries r.held r.apart.past r.whole;
          stack = stack_same s n n t u entry entry' l refl refl other free (meetings.stack h.running);
          past = ap (beyond_of s) lent ∙ anew.past (drop_same t.queue queue' n s.places.0 r.apart.long l.few r.apart.past);
        })

  pub strikes_at : {k : ℕ} → k ≡ p → {place' file' size' cost' freq' key' stamp' queue' entry' : List ℕ} {b : Tally}
      → place' ≡ t.place → file' ≡ t.file → size' ≡ t.size → cost' ≡ t.cost
      → HitDone a k t.size t.cost t.freq t.key t.stamp t.queue entry freq' key' stamp' queue' entry' b
      → Met a t events at (meets a q t) (record { outcome = Hit; tally = b; due = at }) (tables place' file' size' cost' freq' key' stamp' queue') entry' free events
  strikes_at e i j k l d = rw (i, j, k, l) (strikes (rw e at d))

-- ---- a file that is not kept, by the test of its size

module _ {a : Tally} {q : Request} {t : Tables} {entry free events : List ℕ} {at : ℕ} (h : Meetable a q t entry free events at) (out : get_or t.place q.file 0 ≡ no_place) where
  pub bigs : a.settings.capacity.0 < q.size → {b : Tally} → b ≡ pass_tally a q.size q.cost
      → Met a t events at (meets a q t) (record { outcome = Passed TooBig; tally = b; due = at }) t entry free events
  bigs above tl =
      let big = lt-ltb a.settings.capacity.0 q.size above in
      let x : meets a q t ≡ meetings.passed h TooBig = rw (meetings.slot_free h out) (pick_true _ _ big) in
      meetings.passes h TooBig x t.queue entry (meetings.live h.running) refl tl

  module _ (small : q.size ≤ a.settings.capacity.0) where
    pub admissible : Admissible a q t entry free events at
    admissible = record { meetable = h; out = out; small = small }

    pub admitted : {r : Untold} {u : Tables} {entry' free' events' : List ℕ} → Met a t events at (admits a q t) r u entry' free' events'
        → Met a t events at (meets a q t) r u entry' free' events'
    admitted m = meetings.met_as (meetings.small_as h out admissible.small) refl m
