-- A lift over sound tables: they are sound again, and stand for the same whole state. Assumes nothing.
use mathlib.Core.Path.{◌≡◌, refl, sym, ap, ◌∙◌, subst, subst₂}
use mathlib.Core.Logic.{◌⊎◌, inl, inr, ⊎_elim}
use mathlib.Core.List.{List}
use Prim.Native.Nat.{ℕ, ◌+◌, ◌-◌, ◌*◌, ◌≤◌, ◌<◌}
use native.Mathlib.Omega.{arith}
use lib.ListN.{get_or}
use Rattle.amounts.specs.Limits.{lift, no_place}
use Rattle.amounts.specs.declared.settings.Settings.{Settings}
use Rattle.amounts.proofs.Tests.{same}
use Rattle.queue.specs.Queue.{times}
use Rattle.queue.proofs.Totals.{Found, times_found}
use Rattle.tables.proofs.Shelves.{shelf_at, slot_kept}
use Rattle.tables.proofs.Ranges.{bounded}
use Rattle.method.specs.Shelf.{Kept, sum}
use Rattle.method.specs.Method.{State}
use Rattle.method.specs.Whole.{higher}
use Rattle.method.specs.Promise.{SoundAt}
use Rattle.method.proofs.Raising.{sum_raise}
use Rattle.method.proofs.Lifts.{lifted_still, lifted_more}
use Rattle.tables.specs.Tables.{Tables, record_at, slot_of}
use Rattle.tables.specs.Tally.{store_of, policy_in, state_of, whole_of, totals_of}
use Rattle.tables.specs.Sound.{At, Occupied, Sound}
use Rattle.tables.specs.declared.tally.Tally.{Tally}
use Rattle.tables.proofs.Near.{near}
use Rattle.shelving.specs.Live.{Running, beyond_of}
use Rattle.shelving.proofs.Beyond.{drop_same}
use Rattle.lifting.specs.Lifting.{Lifted, one_more, Raisable, Raised, stays, rises}
use Rattle.lifting.specs.Leaving.{with_keys, Leaves}
use Rattle.lifting.proofs.Orders.{ordered_lifted}
use Rattle.lifting.proofs.Shelves.{shelf_lifted}

-- places and files do not see the keys
at_keys : (s : Settings) (t : Tables) (k : List ℕ) (f p : ℕ) → At s t f p → At s (with_keys t k) f p
at_keys s t k f p o = record { known = o.known; inside = o.inside; place = o.place; file = o.file }

at_back : (s : Settings) (t : Tables) (k : List ℕ) (f p : ℕ) → At s (with_keys t k) f p → At s t f p
at_back s t k f p o = record { known = o.known; inside = o.inside; place = o.place; file = o.file }

module _ (a : Tally) (t : Tables) (entry free : List ℕ) (h : Running a t entry free) where
  abbrev n : ℕ
  n = a.files_kept

  -- a file has no place, or one that the queue holds once
  out_once : (f : ℕ) → f < a.settings.catalogue.0 → (get_or t.place f 0 ≡ no_place) ⊎ (times (get_or t.place f 0) t.queue n ≡ 1)
  out_once f l = ⊎_elim (λ e. inl e) (λ o. inr (h.sound.queued.once (get_or t.place f 0) (occupied f o))) (h.sound.linked.out f l)
    where
      occupied : (f : ℕ) → At a.settings t f (get_or t.place f 0) → Occupied a.settings t (get_or t.place f 0)
      occupied f o = subst (λ (x : ℕ). At a.settings t x (get_or t.place f 0)) (sym o.file) o

  -- an entry's place is held once
  entry_once : (i : ℕ) → i < n → times (get_or t.queue i 0) t.queue n ≡ 1
  entry_once i l = h.sound.queued.once (get_or t.queue i 0) (h.sound.queued.entries i l)

  module _ (reached : lift ≤ a.inflation.0) (keys' : List ℕ) (l : Lifted t.queue t.key keys' n) where
    abbrev u : Tables
    u = with_keys t keys'

    abbrev b : Tally
    b = one_more a

    pub whole_same : whole_of b u ≡ whole_of a t
    whole_same =
        let e : (a.lifts + 1) * lift + (a.inflation.0 - lift) ≡ a.lifts * lift + a.inflation.0 = omega arith in
        λ i. record { inflation = e i; shelf = shelf_lifted a.lifts n t keys' l a.settings.catalogue.0 out_once i; stamp = a.requests }

    -- a sum that does not see keys is as it was
    same_sum : (f : Kept → ℕ) → ((d : ℕ) (r : Kept) → f (higher d r) ≡ f r) → sum f (state_of b u).shelf ≡ sum f (state_of a t).shelf
    same_sum f blind =
        sym (sum_raise f (b.lifts * lift) (blind (b.lifts * lift)) (state_of b u).shelf) ∙ ap (λ (x : State). sum f x.shelf) whole_same
        ∙ sum_raise f (a.lifts * lift) (blind (a.lifts * lift)) (state_of a t).shelf

    sound_lifted : Sound b u
    sound_lifted = record {
      agreed = h.sound.agreed;
      few = h.sound.few;
      low = omega (arith, h.sound.low);
      linked = record {
        out = λ f c. ⊎_elim (λ e. inl e) (λ o. inr (at_keys a.settings t keys' f (get_or t.place f 0) o)) (h.sound.linked.out f c);
        unused = λ p c vacant.
            let z = h.sound.linked.unused p c (λ o. vacant (at_keys a.settings t keys' (get_or t.file p 0) p o)) in
            record { file = z.file; size = z.size; cost = z.cost; freq = z.freq; key = omega (arith, z.key, l.less p); stamp = z.stamp };
      };
      queued = record {
        entries = λ i c. at_keys a.settings t keys' (get_or t.file (get_or t.queue i 0) 0) (get_or t.queue i 0) (h.sound.queued.entries i c);
        once = λ p o. h.sound.queued.once p (at_back a.settings t keys' (get_or t.file p 0) p o);
        rest = h.sound.queued.rest;
      };
      ordered = ordered_lifted t.queue t.key keys' t.stamp n entry_once l h.sound.ordered;
      shelf = subst (λ (x : State). SoundAt (policy_in a.settings) (store_of a.settings) x a.requests) (sym whole_same) h.sound.shelf;
      files = same_sum (λ r. 1) (λ d r. refl) ∙ h.sound.files;
      bytes = same_sum (λ r. r.size) (λ d r. refl) ∙ h.sound.bytes;
    }

    running_lifted : Running b u entry free
    running_lifted = record {
      ranged = h.ranged;
      long = let x = h.long in record { place = x.place; file = x.file; size = x.size; cost = x.cost; freq = x.freq; key = omega (arith, x.key, l.long); stamp = x.stamp; queue = x.queue };
      sound = sound_lifted;
      desk = record {
        indexed = h.desk.indexed;
        spare = record {
          unused = λ i c. let x = h.desk.spare.unused i c in (x.0, λ o. x.1 (at_back a.settings t keys' (get_or t.file (get_or free i 0) 0) (get_or free i 0) o));
          apart = h.desk.spare.apart;
        };
      };
      entry_long = h.entry_long;
      free_long = h.free_long;
    }

-- ---- the call

module _ (a : Tally) (t : Tables) (entry free : List ℕ) (h : Running a t entry free) where
  -- the bound on whole inflation leaves few lifts, and every key has what is taken from it
  pub raisable : Raisable a t.queue t.key
  raisable = record {
    few = omega (arith, h.sound.shelf.total, h.sound.few);
    liftable = λ r. record {
      long = omega (arith, (near h.sound).files, h.sound.files, h.long.queue);
      keyed = λ i c. omega (arith, (h.sound.queued.entries i c).inside, h.long.key);
      enough = enough r;
    };
  }
    where
      enough : lift ≤ a.inflation.0 → (p : ℕ) → times p t.queue a.files_kept * lift ≤ get_or t.key p 0
      enough r p = ⊎_elim (λ z. omega (arith, z)) (λ ne. held (times_found p t.queue a.files_kept (omega arith))) (same (times p t.queue a.files_kept) 0)
        where
          held : Found p t.queue a.files_kept → times p t.queue a.files_kept * lift ≤ get_or t.key p 0
          held x =
              let o : Occupied a.settings t p = subst (Occupied a.settings t) x.is (h.sound.queued.entries x.entry x.before) in
              let e =
              shelf_at a.settings.catalogue.0 t (get_or t.file p 0) o.known h.long.place ∙ ap (slot_of t) o.place
              ∙ slot_kept t p (λ e. omega (arith, o.inside, (bounded a.settings h.ranged).places.1)) in
              omega (arith, r, h.sound.queued.once p o, ((near h.sound).keys (get_or t.file p 0) (record_at t p) e).0)

  pub raised : (b : Tally) (keys' : List ℕ) → Raised a t.queue t.key keys' b → Leaves a t entry free b (with_keys t keys')
  raised b keys' (stays l e k) =
      record {
        running = subst₂ (λ (x : Tally) (y : List ℕ). Running x (with_keys t y) entry free) (sym e) (sym k) h;
        whole = λ i. whole_of (e i) (with_keys t (k i));
        ready = omega (arith, ap (λ (x : Tally). x.inflation.0) e);
        lifts = ap (λ (x : Tally). x.lifts) e ∙ sym (lifted_still a.lifts (whole_of a t).inflation (omega arith));
        settings = ap (λ (x : Tally). x.settings) e;
        totals = ap totals_of e;
        files = ap (λ (x : Tally). x.files_kept) e;
        past = ap (λ (x : List ℕ). beyond_of a.settings (with_keys t x)) k;
      }
  raised b keys' (rises l e k) =
      record {
        running = subst (λ (x : Tally). Running x (with_keys t keys') entry free) (sym e) (running_lifted a t entry free h l keys' k);
        whole = ap (λ (x : Tally). whole_of x (with_keys t keys')) e ∙ whole_same a t entry free h l keys' k;
        ready = omega (arith, ap (λ (x : Tally). x.inflation.0) e, h.sound.low);
        lifts = ap (λ (x : Tally). x.lifts) e ∙ sym (lifted_more a.lifts (whole_of a t).inflation (omega arith));
        settings = ap (λ (x : Tally). x.settings) e;
        totals = ap totals_of e;
        files = ap (λ (x : Tally). x.files_kept) e;
        past = ap (with_keys (beyond_of a.settings t))
            (drop_same t.key keys' a.settings.places.0 a.settings.places.0 k.long (omega arith) (λ i c. omega (arith, k.less i, unheld i c)));
      }
    where
      unheld : (i : ℕ) → a.settings.places.0 ≤ i → times i t.queue a.files_kept ≡ 0
      unheld i c = ⊎_elim (λ z. z) (λ ne. absurd (held (times_found i t.queue a.files_kept (omega arith)))) (same (times i t.queue a.files_kept) 0)
        where
          held : Found i t.queue a.files_kept → ⊥
          held x = omega (arith, x.is, (h.sound.queued.entries x.entry x.before).inside)
