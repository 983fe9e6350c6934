-- The verdict: each pass decides a part of soundness, and together they are all of it. Assumes nothing.
use mathlib.Core.Path.{◌≡◌, sym, ap, ◌∙◌, subst}
use mathlib.Core.Logic.{inl, inr, ⊎_elim}
use mathlib.Core.Bool.{Bool, false, true≢false}
use mathlib.Core.List.{List}
use Prim.Native.Nat.{ℕ, ◌*◌, ◌≤◌, ◌<◌}
use native.Mathlib.Omega.{arith}
use lib.ListN.{length, get_or}
use Rattle.amounts.specs.Limits.{lift, no_place, places_most}
use Rattle.amounts.specs.declared.settings.Settings.{Settings}
use Rattle.amounts.proofs.Tests.{same, below}
use Rattle.queue.specs.Queue.{times, Ordered}
use Rattle.queue.proofs.Totals.{Found, times_found}
use Rattle.queue.proofs.Index.{times_own, distinct}
use Rattle.method.specs.Shelf.{Kept, none, kept, Shelf}
use Rattle.method.specs.Promise as promise
use Rattle.method.proofs.Shelves.{none_kept, kept_lt}
use Rattle.method.proofs.Raising.{near_total, whole_sound}
use Rattle.tables.specs.Tables.{Tables, record_at, slot_of, shelf_of}
use Rattle.tables.specs.Tally.{store_of, policy_in, state_of}
use Rattle.tables.specs.Below.{sum_below}
use Rattle.tables.specs.Sound.{At, Occupied, Rest, Sound, Spare, Desk, Verdict}
use Rattle.tables.specs.declared.tally.Tally.{Tally}
use Rattle.tables.proofs.Near.{near}
use Rattle.tables.proofs.Ranges.{bounded}
use Rattle.tables.proofs.Shelves.{slot_none, slot_kept, shelf_length, shelf_at}
use Rattle.tables.proofs.Counting.{sum_below_same, held_together}
use Rattle.tables.specs.Exact.{Exact}
use Rattle.totals.specs.Totals.{Numbers}
use Rattle.weighing.specs.Weighing.{Right, Filed}
use Rattle.judge.specs.Judge.{Lent}
use Rattle.judge.specs.Passes.{Indexable, Index, noted, Stackable, Used, Own, Stamped}
use Rattle.judge.proofs.Stacking.{noted_none, noted_some}
use Rattle.judge.proofs.Stamping.{own_place}

-- a file's place is occupied where it points back
at_occupied : {s : Settings} {t : Tables} {f p : ℕ} → At s t f p → Occupied s t p
at_occupied {s} {t} {f} {p} o = subst (λ (k : ℕ). At s t k p) (sym o.file) o

module _ (a : Tally) (t : Tables) where
  abbrev s : Settings
  s = a.settings

  abbrev n : ℕ
  n = a.files_kept

  abbrev P : ℕ
  P = s.places.0

  abbrev C : ℕ
  C = s.catalogue.0

  abbrev shelf : Shelf
  shelf = shelf_of C t

  -- ---- what soundness says to each pass

  pub sound_few : Sound a t → n ≤ P
  sound_few h = omega (arith, h.files, (near h).files)

  module _ (few : n ≤ places_most) (entry : List ℕ) (x : Index s n t entry) where
    -- a place that is held is in the index
    indexed_held : (p : ℕ) → Found p t.queue n → get_or entry p 0 ≡ no_place → ⊥
    indexed_held p f e = omega (arith, x.indexed.index f.entry f.before, ap (λ (k : ℕ). get_or entry k 0) f.is, f.before)

    pub sound_used : Sound a t → Used s t entry
    sound_used h = record { indexed = λ p l o. indexed_held p (times_found p t.queue n (omega (arith, h.queued.once p o))); unused = h.linked.unused }

    -- a place that is in the index is held once
    noted_once : (p : ℕ) → p < P → (get_or entry p 0 ≡ no_place → ⊥) → times p t.queue n ≡ 1
    noted_once p l ne = ⊎_elim
        (λ e. absurd (ne e))
        (λ y. subst (λ (k : ℕ). times k t.queue n ≡ 1) y.1 (times_own t.queue entry n x.indexed (get_or entry p 0) y.0))
        (x.notes p l)

    noted_times : (p : ℕ) → p < P → noted entry p ≡ times p t.queue n
    noted_times p l = ⊎_elim
        (λ e. ⊎_elim (λ k. omega (arith, noted_none entry p e)) (λ k. absurd (indexed_held p (times_found p t.queue n k) e)) (below (times p t.queue n) 1))
        (λ ne. noted_some entry p ne ∙ sym (noted_once p l ne))
        (same (get_or entry p 0) no_place)

    -- as many places are in the index as files are kept
    noted_all : sum_below (noted entry) P ≡ n
    noted_all = sum_below_same (noted entry) (λ p. times p t.queue n) P noted_times ∙ held_together t.queue n P (λ i l. (x.entries i l).inside)

    pub desk : (free : List ℕ) → Spare s (sum_below (noted entry) P) t free → Desk a t entry free
    desk free k = record { indexed = x.indexed; spare = subst (λ (m : ℕ). Spare s m t free) noted_all k }

  module _ (most : P ≤ places_most) (long : C ≤ length t.place) where
    -- the slot of a file that has a place
    slot_at : {f p : ℕ} → At s t f p → get_or shelf f none ≡ kept (record_at t p)
    slot_at {f} {p} o = shelf_at C t f o.known long ∙ ap (slot_of t) o.place ∙ slot_kept t p (λ e. omega (arith, o.inside))

    pub sound_filed : Sound a t → Filed a t
    sound_filed h = record {
      lawful = λ f l. ⊎_elim (λ e. inl e) (λ o. inr (o, right o)) (h.linked.out f l);
      balanced = record {
        files = h.files;
        bytes = h.bytes;
        fits = omega (arith, h.bytes, (near h).bytes);
        freqs = (near h).freqs;
        total = near_total (policy_in s) (store_of s) (a.lifts * lift) (state_of a t) a.requests h.shelf;
      };
    }
      where
        right : {f p : ℕ} → At s t f p → Right (policy_in s) a.inflation.0 a.requests (record_at t p)
        right {f} {p} o =
            let r : Kept = record_at t p in
            let e : get_or shelf f none ≡ kept r = slot_at o in
            record {
              fine = (near h).fine f r e;
              stamp = (near h).stamps f r e;
              key_least = ((near h).keys f r e).0;
              key_most = ((near h).keys f r e).1;
            }

    pub sound_own : (entry : List ℕ) → Index s n t entry → Sound a t → Own t.queue t.stamp n
    sound_own entry x h i j l m e =
        let o = x.entries i l in let u = x.entries j m in
        let d = (near h).apart _ _ _ _ (slot_at o) (slot_at u) e in
        distinct t.queue entry n x.indexed i j l m (sym o.place ∙ ap (λ (v : ℕ). get_or t.place v 0) d ∙ u.place)

    -- ---- all passes together

    module _ (num : Numbers a) (few : n ≤ P) (entry : List ℕ) (x : Index s n t entry) (rest : Rest s n t) (u : Used s t entry)
        (v : Filed a t) (ord : Ordered t.queue t.key t.stamp n) (own : Own t.queue t.stamp n) where
      record Known (f : ℕ) (r : Kept) : Type 0 where
        at : At s t f (get_or t.place f 0)
        is : record_at t (get_or t.place f 0) ≡ r
        right : Right (policy_in s) a.inflation.0 a.requests r

      -- a kept file has a place, and its record is right
      known : (f : ℕ) (r : Kept) → get_or shelf f none ≡ kept r → Known f r
      known f r e = ⊎_elim gone (λ o. there o.0 o.1) (v.lawful f l)
        where
          l : f < C
          l = omega (arith, kept_lt shelf f r e, shelf_length C t long)

          gone : get_or t.place f 0 ≡ no_place → Known f r
          gone z = none_kept (sym (slot_none t (get_or t.place f 0) z) ∙ sym (shelf_at C t f l long) ∙ e)

          there : At s t f (get_or t.place f 0) → Right (policy_in s) a.inflation.0 a.requests (record_at t (get_or t.place f 0)) → Known f r
          there o w =
              let k : kept (record_at t (get_or t.place f 0)) ≡ kept r = sym (slot_at o) ∙ e in
              let d : record_at t (get_or t.place f 0) ≡ r = cc in
              record { at = o; is = d; right = subst (Right (policy_in s) a.inflation.0 a.requests) d w }

      -- an occupied place is held once
      held_once : (p : ℕ) → Occupied s t p → times p t.queue n ≡ 1
      held_once p o = noted_once (omega arith) entry x p o.inside (u.indexed p o.inside o)

      found : {f p : ℕ} → At s t f p → Found p t.queue n
      found {f} {p} o = times_found p t.queue n (omega (arith, held_once p (at_occupied o)))

      apart : promise.Apart shelf
      apart i j r q e d h = meet (known i r e) (known j q d)
        where
          meet : Known i r → Known j q → i ≡ j
          meet k m =
              let p = own_place t.stamp own (found k.at) (found m.at) (ap (λ (y : Kept). y.stamp) k.is ∙ h ∙ ap (λ (y : Kept). y.stamp) (sym m.is)) in
              sym k.at.file ∙ ap (λ (y : ℕ). get_or t.file y 0) p ∙ m.at.file

      made_near : promise.SoundAt (policy_in s) (store_of s) (state_of a t) a.requests
      made_near = record {
        slots = shelf_length C t long;
        bytes = omega (arith, v.balanced.bytes, v.balanced.fits);
        files = omega (arith, v.balanced.files);
        fine = λ i r e. (known i r e).right.fine;
        stamps = λ i r e. (known i r e).right.stamp;
        apart = apart;
        freqs = v.balanced.freqs;
        keys = λ i r e. ((known i r e).right.key_least, (known i r e).right.key_most);
        total = omega (arith, v.balanced.total);
      }

      pub sound_made : Sound a t
      sound_made = record {
        agreed = num.agreed;
        few = num.few;
        low = num.low;
        linked = record { out = λ f l. ⊎_elim (λ e. inl e) (λ o. inr o.0) (v.lawful f l); unused = u.unused };
        queued = record { entries = x.entries; once = held_once; rest = rest };
        ordered = ord;
        shelf = whole_sound (policy_in s) (store_of s) (a.lifts * lift) (state_of a t) a.requests made_near v.balanced.total;
        files = v.balanced.files;
        bytes = v.balanced.bytes;
      }

-- ---- the verdict itself

module _ {a : Tally} {t : Tables} {entry entry' free free' : List ℕ} where
  pub unsound : (Sound a t → ⊥) → length entry' ≡ length entry → length free' ≡ length free → Verdict a t entry entry' free free' false
  unsound never e f = record { yes = λ z. absurd (true≢false (sym z)); no = λ _ s. never s; ready = λ z. absurd (true≢false (sym z)); entry_long = e; free_long = f }

  pub judged : {b : Bool} {Q : Type 0} → Exact Q b → (Q → Sound a t) → (Sound a t → Q) → Desk a t entry' free' → length entry' ≡ length entry → length free' ≡ length free
      → Verdict a t entry entry' free free' b
  judged x f g d e h = record { yes = λ z. f (x.yes z); no = λ z s. x.no z (g s); ready = λ _. d; entry_long = e; free_long = h }

-- ---- what the passes ask

module _ (a : Tally) (t : Tables) (entry free : List ℕ) (j : Lent a t entry free) where
  places_at_most : a.settings.places.0 ≤ places_most
  places_at_most = (bounded a.settings j.range).places.1

  pub indexable : a.files_kept ≤ a.settings.places.0 → Indexable a.settings a.files_kept t entry
  indexable few = record { few = few; most = places_at_most; place_long = j.long.place; file_long = j.long.file; queue_long = j.long.queue; entry_long = j.entry_long }

  module _ (few : a.files_kept ≤ a.settings.places.0) (entry' : List ℕ) (x : Index a.settings a.files_kept t entry') where
    pub stackable : length entry' ≡ length entry → Stackable a.settings t entry' free
    stackable e = record {
      long = record { queue = t.queue; long = j.long };
      most = places_at_most;
      entry_long = omega (arith, j.entry_long);
      free_long = j.free_long;
      occupied = λ p l ne. ⊎_elim (λ z. absurd (ne z)) (λ y. subst (Occupied a.settings t) y.1 (x.entries (get_or entry' p 0) y.0)) (x.notes p l);
    }

    pub stamped : Stamped a.files_kept t.queue t.stamp
    stamped = record {
      few = omega (arith, places_at_most);
      long = omega (arith, j.long.queue);
      inside = λ i l. (omega (arith, (x.entries i l).inside, j.long.stamp), omega (arith, (x.entries i l).inside, places_at_most));
      apart = distinct t.queue entry' a.files_kept x.indexed;
    }
