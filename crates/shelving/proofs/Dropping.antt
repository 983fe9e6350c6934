-- Dropping the files behind the queue: what each turn keeps, and what all of them leave. Assumes nothing.
use mathlib.Core.Path.{◌≡◌, refl, sym, ap, ◌∙◌, subst}
use mathlib.Core.Logic.{⊎_elim}
use mathlib.Core.List.{List}
use Prim.Native.Nat.{ℕ, zero, suc, ◌+◌, ◌-◌, ◌≤◌, ◌<◌}
use native.Mathlib.Omega.{arith}
use lib.ListN.{length, get_or, set, length-set}
use lib.Seq.{get_or-set_same, get_or-set_other}
use Rattle.amounts.specs.Limits.{no_place}
use Rattle.amounts.specs.declared.settings.Settings.{Settings}
use Rattle.amounts.proofs.Tests.{same, below}
use Rattle.queue.specs.Queue.{is, times, Whole}
use Rattle.queue.proofs.Totals.{total_last, total_prefix, is_same}
use Rattle.queue.proofs.Callers.{whole_record, whole_behind}
use Rattle.method.specs.Shelf.{none}
use Rattle.method.specs.Method.{Gone}
use Rattle.tables.specs.Tables.{Tables, Long, record_at, shelf_of}
use Rattle.tables.specs.Sound.{At, Occupied}
use Rattle.tables.proofs.Counting.{times_twice}
use Rattle.tables.proofs.Shelves.{shelf_change, slot_none}
use Rattle.shelving.specs.Live.{Live, Stack}
use Rattle.shelving.specs.Evicting.{with_queue, gone_at, behind, without, clear_at, last_place, drop_last, drop_all, stack_all, Droppable, Dropped}
use Rattle.shelving.proofs.Links.{SameAt, But, at_file, at_place, occupied_there}
use Rattle.shelving.proofs.Lives as lives
use Rattle.shelving.proofs.Lives.{live_drop, stack_drop}
use Rattle.shelving.proofs.Popping.{behind_same}

-- ---- lengths

pub record SameLengths (t u : Tables) : Type 0 where
  pub place : length u.place ≡ length t.place
  pub file : length u.file ≡ length t.file
  pub size : length u.size ≡ length t.size
  pub cost : length u.cost ≡ length t.cost
  pub freq : length u.freq ≡ length t.freq
  pub key : length u.key ≡ length t.key
  pub stamp : length u.stamp ≡ length t.stamp
  pub queue : length u.queue ≡ length t.queue

pub same_lengths : (t : Tables) → SameLengths t t
same_lengths t = record { place = refl; file = refl; size = refl; cost = refl; freq = refl; key = refl; stamp = refl; queue = refl }

-- ---- one file dropped

-- only its place and its record differ
pub but_clear : (p f : ℕ) (t : Tables) (q : List ℕ) → But f p t (with_queue q (clear_at p f t))
but_clear p f t q =
    record {
      places = λ g ne. get_or-set_other t.place f g no_place 0 ne;
      records = λ k ne.
          record {
            file = get_or-set_other t.file p k 0 0 ne;
            size = get_or-set_other t.size p k 0 0 ne;
            cost = get_or-set_other t.cost p k 0 0 ne;
            freq = get_or-set_other t.freq p k 0 0 ne;
            key = get_or-set_other t.key p k 0 0 ne;
            stamp = get_or-set_other t.stamp p k 0 0 ne;
          };
    }

pub long_clear : (places cat p f n : ℕ) (t : Tables) → Long places cat t → Long places cat (with_queue (set t.queue n 0) (clear_at p f t))
long_clear places cat p f n t h =
    record {
      place = simp length-set h.place;
      file = simp length-set h.file;
      size = simp length-set h.size;
      cost = simp length-set h.cost;
      freq = simp length-set h.freq;
      key = simp length-set h.key;
      stamp = simp length-set h.stamp;
      queue = simp length-set h.queue;
    }

module _ (s : Settings) (n m : ℕ) (t : Tables) (entry : List ℕ) (h : Live s n m t entry) (room : m < n) where
  a : At s t (get_or t.file (last_place n t) 0) (last_place n t)
  a = h.queued.entries (n - 1) (omega arith)

  dropped : lives.Vacated s n (get_or t.file (last_place n t) 0) (last_place n t) t (drop_last n t)
  dropped =
      let p : ℕ = last_place n t in
      record {
        but = but_clear p (get_or t.file p 0) t (set t.queue (n - 1) 0);
        gone = get_or-set_same t.place (get_or t.file p 0) no_place 0 (omega (arith, a.known, h.long.place));
        zero =
            record {
              file = get_or-set_same t.file p 0 0 (omega (arith, a.inside, h.long.file));
              size = get_or-set_same t.size p 0 0 (omega (arith, a.inside, h.long.size));
              cost = get_or-set_same t.cost p 0 0 (omega (arith, a.inside, h.long.cost));
              freq = get_or-set_same t.freq p 0 0 (omega (arith, a.inside, h.long.freq));
              key = get_or-set_same t.key p 0 0 (omega (arith, a.inside, h.long.key));
              stamp = get_or-set_same t.stamp p 0 0 (omega (arith, a.inside, h.long.stamp));
            };
        last = get_or-set_same t.queue (n - 1) 0 0 (omega (arith, h.long.queue, h.few));
        past = λ i ne. get_or-set_other t.queue (n - 1) i 0 0 ne;
      }

  -- no other file has the place
  alone : (j : ℕ) → j < s.catalogue.0 → (j ≡ get_or t.file (last_place n t) 0 → ⊥) → get_or t.place j 0 ≡ last_place n t → ⊥
  alone j b ne e =
      ⊎_elim (λ z. omega (arith, a.inside, h.places)) (λ c. ne (at_file s t j _ (last_place n t) (subst (At s t j) e c) a)) (h.linked.out j b)

  -- one slot of the shelf is empty
  shelf_drop : shelf_of s.catalogue.0 (drop_last n t) ≡ set (shelf_of s.catalogue.0 t) (get_or t.file (last_place n t) 0) none
  shelf_drop =
      let p : ℕ = last_place n t in
      let f : ℕ = get_or t.file p 0 in
      shelf_change s.catalogue.0 t (drop_last n t) f no_place p a.known h.long.place refl
      (λ k ne.
      let r : SameAt t (drop_last n t) k = dropped.but.records k ne in
      λ i. record { size = r.size i; cost = r.cost i; freq = r.freq i; key = r.key i; stamp = r.stamp i })
      alone
      ∙ ap (set (shelf_of s.catalogue.0 t) f) (slot_none (drop_last n t) no_place refl)

  -- its place is not in the queue
  unheld : times (last_place n t) t.queue m ≡ 0
  unheld =
      let p : ℕ = last_place n t in
      omega (arith, h.queued.once p a, total_last (is p) t.queue n (omega arith), is_same p (last_place n t) refl, total_prefix (is p) t.queue m (n - 1) (omega arith))

  whole_drop : Whole (set t.queue (n - 1) 0) entry (set t.key (last_place n t) 0) (set t.stamp (last_place n t) 0) m
  whole_drop =
      whole_behind t.queue entry (set t.key (last_place n t) 0) (set t.stamp (last_place n t) 0) m
      (whole_record t.queue entry t.key t.stamp m h.whole (last_place n t) 0 0 unheld) (n - 1) 0 (omega arith)

  pub live_last : Live s (n - 1) m (drop_last n t) entry
  live_last =
      live_drop s n m _ (last_place n t) t (drop_last n t) entry h room a refl dropped (long_clear s.places.0 s.catalogue.0 (last_place n t) _ (n - 1) t h.long) whole_drop

  pub stack_last : (free : List ℕ) → Stack s n t free → Stack s (n - 1) (drop_last n t) (set free (s.places.0 - n) (last_place n t))
  stack_last free k =
      stack_drop s n m _ (last_place n t) t (drop_last n t) entry h room a refl dropped free (set free (s.places.0 - n) (last_place n t)) k
      (length-set free (s.places.0 - n) (last_place n t)) (get_or-set_same free (s.places.0 - n) (last_place n t) 0 (omega (arith, k.long, h.few)))
      (λ i ne. get_or-set_other free (s.places.0 - n) i (last_place n t) 0 ne)

  -- the entries before the last stand for what they stood for
  gone_last : (i : ℕ) → i < n - 1 → gone_at (drop_last n t) i ≡ gone_at t i
  gone_last i b =
      let q : get_or (set t.queue (n - 1) 0) i 0 ≡ get_or t.queue i 0 = get_or-set_other t.queue (n - 1) i 0 0 (omega arith) in
      let ne : get_or t.queue i 0 ≡ last_place n t → ⊥ = lives.before_last s n m _ (last_place n t) t (drop_last n t) entry h room a refl dropped i b in
      let r : SameAt t (drop_last n t) (get_or t.queue i 0) = dropped.but.records (get_or t.queue i 0) ne in
      ap (λ (p : ℕ). record { file = get_or (drop_last n t).file p 0; was = record_at (drop_last n t) p }) q
      ∙ (λ j. record { file = r.file j; was = record { size = r.size j; cost = r.cost j; freq = r.freq j; key = r.key j; stamp = r.stamp j } })

-- ---- all of them

pub record AllDropped (s : Settings) (n m k : ℕ) (t : Tables) (entry free : List ℕ) : Type 0 where
  pub live : Live s m m (drop_all k n t) entry
  pub stack : Stack s m (drop_all k n t) (stack_all s.places.0 k n t free)
  pub shelf : shelf_of s.catalogue.0 (drop_all k n t) ≡ without (behind t n k) (shelf_of s.catalogue.0 t)

pub all_dropped : (s : Settings) (n m k : ℕ) (t : Tables) (entry free : List ℕ) → m + k ≡ n → Live s n m t entry → Stack s n t free → AllDropped s n m k t entry free
unfolding drop_all stack_all behind without
all_dropped s n m zero t entry free e h st =
    let same : n ≡ m = omega arith in
    record { live = subst (λ (x : ℕ). Live s x m t entry) same h; stack = subst (λ (x : ℕ). Stack s x t free) same st; shelf = refl }
all_dropped s n m (suc k) t entry free e h st =
    let room : m < n = omega arith in
    let free' : List ℕ = set free (s.places.0 - n) (last_place n t) in
    let r = all_dropped s (n - 1) m k (drop_last n t) entry free' (omega arith) (live_last s n m t entry h room) (stack_last s n m t entry h room free st) in
    record {
      live = r.live;
      stack = r.stack;
      shelf =
          r.shelf ∙ ap (without (behind (drop_last n t) (n - 1) k)) (shelf_drop s n m t entry h room)
          ∙ ap (λ (gs : List Gone). without gs (set (shelf_of s.catalogue.0 t) (get_or t.file (last_place n t) 0) none))
          (behind_same t (drop_last n t) m (n - 1) k (omega arith) (λ i _ b. gone_last s n m t entry h room i b));
    }

-- ---- at the loop's head

pub droppable_last : (s : Settings) (n m : ℕ) (t : Tables) (free : List ℕ) → Droppable s n m t free → m < n
    → Droppable s (n - 1) m (drop_last n t) (set free (s.places.0 - n) (last_place n t))
droppable_last s n m t free h room =
    let p : ℕ = last_place n t in
    let f : ℕ = get_or t.file p 0 in
    let a : At s t f p = h.entries (n - 1) (omega arith) in
    let q : (i : ℕ) → i < n - 1 → get_or (set t.queue (n - 1) 0) i 0 ≡ get_or t.queue i 0 = λ i b. get_or-set_other t.queue (n - 1) i 0 0 (omega arith) in
    record {
      places = h.places;
      long = long_clear s.places.0 s.catalogue.0 p f (n - 1) t h.long;
      free_long = simp length-set h.free_long;
      few = omega (arith, h.few);
      part = omega arith;
      entries = λ i b.
          subst (Occupied s (drop_last n t)) (sym (q i b))
          (occupied_there s f p t (drop_last n t) (but_clear p f t (set t.queue (n - 1) 0)) (λ k c. at_place s t f k p c a) (get_or t.queue i 0) (h.entries i (omega arith))
          (λ e. omega (arith, h.apart i (n - 1) (omega arith) (omega arith) e)));
      apart = λ i j b c e. h.apart i j (omega arith) (omega arith) (sym (q i b) ∙ e ∙ q j c);
    }

-- ---- the loop: what is still to be dropped makes of the tables what all of it makes of those at entry

pub record Falling (s : Settings) (n m : ℕ) (t₀ t : Tables) (free₀ free : List ℕ) (i : ℕ) : Type 0 where
  pub asks : Droppable s i m t free
  pub lent : drop_all (i - m) i t ≡ drop_all (n - m) n t₀
  pub stack : stack_all s.places.0 (i - m) i t free ≡ stack_all s.places.0 (n - m) n t₀ free₀
  pub lengths : SameLengths t₀ t
  pub free_length : length free ≡ length free₀

pub falling_more : (s : Settings) (n m : ℕ) (t₀ t u : Tables) (free₀ free : List ℕ) (i : ℕ) → Falling s n m t₀ t free₀ free i → m < i → u ≡ drop_last i t
    → Falling s n m t₀ u free₀ (set free (s.places.0 - i) (last_place i t)) (i - 1)
unfolding drop_all stack_all
falling_more s n m t₀ t u free₀ free i h room is-u =
    let e : i - m ≡ suc (i - 1 - m) = omega arith in
    subst (λ (x : Tables). Falling s n m t₀ x free₀ (set free (s.places.0 - i) (last_place i t)) (i - 1)) (sym is-u)
    (record {
      asks = droppable_last s i m t free h.asks room;
      lent = ap (λ (k : ℕ). drop_all k i t) (sym e) ∙ h.lent;
      stack = ap (λ (k : ℕ). stack_all s.places.0 k i t free) (sym e) ∙ h.stack;
      lengths =
          record {
            place = length-set t.place _ _ ∙ h.lengths.place;
            file = length-set t.file _ _ ∙ h.lengths.file;
            size = length-set t.size _ _ ∙ h.lengths.size;
            cost = length-set t.cost _ _ ∙ h.lengths.cost;
            freq = length-set t.freq _ _ ∙ h.lengths.freq;
            key = length-set t.key _ _ ∙ h.lengths.key;
            stamp = length-set t.stamp _ _ ∙ h.lengths.stamp;
            queue = length-set t.queue _ _ ∙ h.lengths.queue;
          };
      free_length = length-set free _ _ ∙ h.free_length;
    })

pub falling_end : (s : Settings) (n m : ℕ) (t₀ t : Tables) (free₀ free : List ℕ) (i : ℕ) → Falling s n m t₀ t free₀ free i → i ≤ m
    → Dropped s n m t₀ free₀ t free
unfolding drop_all stack_all
falling_end s n m t₀ t free₀ free i h end =
    let e : 0 ≡ i - m = omega arith in
    record { lent = ap (λ (k : ℕ). drop_all k i t) e ∙ h.lent; stack = ap (λ (k : ℕ). stack_all s.places.0 k i t free) e ∙ h.stack }

-- ---- what dropping asks

module _ {s : Settings} {n m : ℕ} {t : Tables} {entry : List ℕ} (h : Live s n m t entry) where
  twice : (i j : ℕ) → i < j → j < n → get_or t.queue i 0 ≡ get_or t.queue j 0 → ⊥
  twice i j a b e = omega (arith, times_twice t.queue i j n a b e, h.queued.once (get_or t.queue j 0) (h.queued.entries j b))

  entries_apart : (i j : ℕ) → i < n → j < n → get_or t.queue i 0 ≡ get_or t.queue j 0 → i ≡ j
  entries_apart i j a b e =
      ⊎_elim (λ z. z) (λ ne. ⊎_elim (λ z. absurd (twice i j z b e)) (λ z. absurd (twice j i (omega arith) a (sym e))) (below i j)) (same i j)

  pub live_droppable : (free : List ℕ) → s.places.0 ≤ length free → Droppable s n m t free
  live_droppable free long =
      record { places = h.places; long = h.long; free_long = long; few = h.few; part = h.part; entries = h.queued.entries; apart = entries_apart }
