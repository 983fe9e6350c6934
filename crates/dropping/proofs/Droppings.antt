-- A kept file dropped: what the steps ask, and what they leave together. Assumes nothing.
use mathlib.Core.Path.{◌≡◌, refl, sym, ap, ◌∙◌, subst, subst₂}
use mathlib.Core.List.{List, map}
use Prim.Native.Nat.{ℕ, ◌+◌, ◌-◌, ◌*◌, ◌≤◌, ◌<◌}
use native.Mathlib.Omega.{arith}
use lib.ListN.{length, get_or, set}
use Rattle.amounts.specs.Limits.{lift}
use Rattle.amounts.specs.declared.settings.Settings.{Settings}
use Rattle.queue.specs.Queue.{Holding, Removed}
use Rattle.queue.proofs.Index.{held_entry}
use Rattle.method.specs.Shelf.{Kept, none, kept, Shelf, bytes, files}
use Rattle.method.specs.Promise.{Sound}
use Rattle.method.specs.Whole.{raise}
use Rattle.method.specs.Totals.{Agreed}
use Rattle.method.proofs.Shelves.{kept_lt, sum_at, sum_set_eq}
use Rattle.method.proofs.Sound.{drop_sound}
use Rattle.method.proofs.Raising.{raise_set}
use Rattle.tables.specs.Tables.{Tables, record_at, shelf_of}
use Rattle.tables.specs.Tally.{policy_in, store_of, totals_of, whole_of}
use Rattle.tables.specs.declared.tally.Tally.{Tally}
use Rattle.tables.proofs.Shelves.{shelf_at, shelf_queue, slot_kept}
use Rattle.shelving.specs.Live.{Live, Stack, Running, beyond_of}
use Rattle.shelving.specs.Evicting.{with_queue, behind, without, drop_all, stack_all, Droppable, Dropped}
use Rattle.shelving.proofs.Beyond.{drop_same, beyond_queue, beyond_all}
use Rattle.shelving.proofs.Dropping.{AllDropped, all_dropped, live_droppable}
use Rattle.shelving.proofs.Lives.{live_queue, removed_kept}
use Rattle.shelving.proofs.Runnings as runnings
use Rattle.dropping.specs.Dropping.{dropped_totals, dropped_tally, Among, Standing, CopyGone}

module _ {a : Tally} {p : ℕ} {t : Tables} {entry free : List ℕ} (h : Standing a p t entry free) where
  abbrev s : Settings
  s = a.settings

  abbrev n : ℕ
  n = a.files_kept

  abbrev cat : ℕ
  cat = a.settings.catalogue.0

  abbrev shelf : Shelf
  shelf = shelf_of a.settings.catalogue.0 t

  -- the file, and what is kept of it
  abbrev file : ℕ
  file = get_or t.file p 0

  abbrev was : Kept
  was = record_at t p

  live : Live s n n t entry
  live = runnings.live h.running

  inside : p < s.places.0
  inside = h.occupied.inside

  slot : get_or shelf file none ≡ kept was
  slot =
      shelf_at cat t file h.occupied.known h.running.long.place ∙ slot_kept t (get_or t.place file 0) (λ e. omega (arith, h.occupied.place, inside, live.places))
      ∙ ap (λ (k : ℕ). kept (record_at t k)) h.occupied.place

  -- the entry of the queue that holds the place
  held : (get_or entry p 0 < n) × (get_or t.queue (get_or entry p 0) 0 ≡ p)
  held = held_entry t.queue entry n h.running.desk.indexed p (omega (arith, h.running.sound.queued.once p h.occupied))

  pub some : 1 ≤ n
  some = omega (arith, held.0)

  -- ---- what the steps ask

  pub sized : p < length t.size
  sized = omega (arith, inside, h.running.long.size)

  pub entered : p < length entry
  entered = omega (arith, inside, h.running.entry_long)

  pub narrow : p < 65536
  narrow = omega (arith, inside, live.places)

  pub holding : {at : ℕ} → at ≡ get_or entry p 0 → Holding t.queue entry t.key t.stamp n at
  holding e = record { whole = live.whole; inside = omega (arith, e, held.0) }

  pub among : {size : ℕ} → size ≡ get_or t.size p 0 → Among a size
  among e =
      let w = h.running.sound in
      record {
        some = some;
        part = omega (arith, e, sum_at (λ r. r.size) shelf file was slot, w.bytes);
        gone = omega (arith, w.agreed.gone, w.agreed.counts.outcomes, w.few, some);
      }

  -- ---- the file is set aside behind the queue

  module _ {at : ℕ} (is_at : at ≡ get_or entry p 0) {queue' entry' : List ℕ} (r : Removed t.queue queue' entry entry' t.key t.stamp n at p) where
    abbrev t₁ : Tables
    t₁ = with_queue queue' t

    out : Removed t.queue queue' entry entry' t.key t.stamp n at (get_or t.queue at 0)
    out = subst (Removed t.queue queue' entry entry' t.key t.stamp n at) (sym held.1 ∙ ap (λ (i : ℕ). get_or t.queue i 0) (sym is_at)) r

    live₁ : Live s n (n - 1) t₁ entry'
    live₁ =
        live_queue s n n (n - 1) t t.queue queue' entry entry' live (omega arith)
        (removed_kept t.queue queue' entry entry' t.key t.stamp n n at some (omega arith) out) r.whole

    pub droppable : Droppable s n (n - 1) t₁ free
    droppable = live_droppable live₁ free h.running.free_long

    -- ---- and dropped

    module _ {u : Tables} {free' : List ℕ} (d : Dropped s n (n - 1) t₁ free u free') where
      one : n - (n - 1) ≡ 1
      one = omega (arith, some)

      all : AllDropped s n (n - 1) 1 t₁ entry' free
      all = all_dropped s n (n - 1) 1 t₁ entry' free (omega (arith, some)) live₁ (runnings.queue_stack h.running queue')

      lent : u ≡ drop_all 1 n t₁
      lent = d.lent ∙ ap (λ (k : ℕ). drop_all k n t₁) one

      live₂ : Live s (n - 1) (n - 1) u entry'
      live₂ = subst (λ (x : Tables). Live s (n - 1) (n - 1) x entry') (sym lent) all.live

      stack₂ : Stack s (n - 1) u free'
      stack₂ = subst₂ (Stack s (n - 1)) (sym lent) (sym (d.stack ∙ ap (λ (k : ℕ). stack_all s.places.0 k n t₁ free) one)) all.stack

      -- the shelf without it
      less : shelf_of cat u ≡ set shelf file none
      unfolding behind without
      less =
          ap (shelf_of cat) lent ∙ all.shelf
          ∙ (λ i. set (shelf_queue cat t₁ t refl refl refl refl refl refl i) (get_or t.file (r.freed i) 0) none)

      -- with whole keys too
      whole_less : map (raise (a.lifts * lift)) (shelf_of cat u) ≡ set (whole_of a t).shelf file none
      whole_less = ap (map (raise (a.lifts * lift))) less ∙ sym (raise_set (a.lifts * lift) shelf file none)

      past : beyond_of s u ≡ beyond_of s t
      past =
          ap (beyond_of s) lent ∙ beyond_all s n (n - 1) 1 t₁ entry' (omega (arith, some)) live₁
          ∙ beyond_queue s t queue' (drop_same t.queue queue' n s.places.0 r.apart.long live.few r.apart.past)

      -- what is kept then
      fewer : files (set shelf file none) ≡ n - 1
      fewer = let e : files (set shelf file none) + 1 ≡ 0 + files shelf = rw slot at (sum_set_eq (λ r. 1) shelf file none (kept_lt shelf file was slot)) in omega (arith, e, h.running.sound.files)

      lighter : bytes (set shelf file none) ≡ a.bytes_kept.0 - was.size
      lighter =
          let e : bytes (set shelf file none) + was.size ≡ 0 + bytes shelf = rw slot at (sum_set_eq (λ r. r.size) shelf file none (kept_lt shelf file was slot)) in
          omega (arith, e, h.running.sound.bytes)

      agreed : Agreed (n - 1) (dropped_totals (totals_of a))
      agreed =
          let g = h.running.sound.agreed in
          record { counts = record { outcomes = g.counts.outcomes; bytes = g.counts.bytes }; gone = omega (arith, g.gone, some); cost = g.cost }

      running : Running (dropped_tally a was.size) u entry' free'
      running =
          let w = h.running in
          record {
            ranged = w.ranged;
            long = live₂.long;
            sound =
                record {
                  agreed = agreed;
                  few = w.sound.few;
                  low = w.sound.low;
                  linked = live₂.linked;
                  queued = live₂.queued;
                  ordered = live₂.whole.ordered;
                  shelf =
                      subst (λ (x : Shelf). Sound (policy_in s) (store_of s) (whole_of a t).inflation x a.requests a.requests) (sym whole_less)
                      (drop_sound (policy_in s) (store_of s) (whole_of a t).inflation (whole_of a t).shelf a.requests a.requests w.sound.shelf file);
                  files = ap files less ∙ fewer;
                  bytes = ap bytes less ∙ lighter;
                };
            desk = record { indexed = live₂.whole.indexed; spare = stack₂.spare };
            entry_long = live₂.entry_long;
            free_long = stack₂.long;
          }

      pub gone : {b : Tally} {size : ℕ} → size ≡ was.size → b ≡ dropped_tally a size → CopyGone a p t b u entry' free'
      gone {b} e f =
          let k : b ≡ dropped_tally a was.size = f ∙ ap (dropped_tally a) e in
          record { tally = k; shelf = less; running = subst (λ (x : Tally). Running x u entry' free') (sym k) running; past = past }
