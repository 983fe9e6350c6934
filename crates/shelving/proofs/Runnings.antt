-- Between requests: what sound tables with the call's own lists in step come to. Assumes nothing.
use mathlib.Core.Path.{◌≡◌, refl, sym, ◌∙◌}
use mathlib.Core.List.{List}
use Prim.Native.Nat.{ℕ, ◌≤◌, ◌<◌}
use native.Mathlib.Omega.{arith}
use lib.ListN.{get_or}
use Rattle.queue.proofs.Index.{distinct}
use Rattle.tables.specs.Tables.{Tables, shelf_of}
use Rattle.tables.specs.declared.tally.Tally.{Tally}
use Rattle.tables.proofs.Ranges.{Bounded, bounded}
use Rattle.tables.proofs.Near.{near}
use Rattle.shelving.specs.Live.{Live, Stack, Running}
use Rattle.shelving.specs.Room.{queue_bytes}
use Rattle.shelving.specs.Evicting.{with_queue}
use Rattle.shelving.proofs.Covers.{shelf_covered, sum_covered}
use Rattle.shelving.proofs.Lives.{stack_same}

module _ {a : Tally} {t : Tables} {entry free : List ℕ} (h : Running a t entry free) where
  limits : Bounded a.settings
  limits = bounded a.settings h.ranged

  pub live : Live a.settings a.files_kept a.files_kept t entry
  live =
      let few : a.files_kept ≤ a.settings.places.0 = omega (arith, h.sound.files, (near h.sound).files) in
      let inside : (i : ℕ) → i < a.files_kept → get_or t.queue i 0 < a.settings.places.0 = λ i b. (h.sound.queued.entries i b).inside in
      record {
        places = limits.places.1;
        catalogue = limits.catalogue.1;
        long = h.long;
        entry_long = h.entry_long;
        few = few;
        part = omega arith;
        linked = h.sound.linked;
        queued = h.sound.queued;
        whole =
            record {
              fit =
                  record {
                    few = omega (arith, few, limits.places.1);
                    long = omega (arith, few, h.long.queue);
                    entries = λ i b. omega (arith, inside i b, h.entry_long);
                    keyed = λ i b. omega (arith, inside i b, h.long.key);
                    stamped = λ i b. omega (arith, inside i b, h.long.stamp);
                  };
              ordered = h.sound.ordered;
              indexed = h.desk.indexed;
            };
      }

  pub stack : Stack a.settings a.files_kept t free
  stack = record { long = h.free_long; spare = h.desk.spare }

  -- whatever order the queue stands in
  pub queue_stack : (queue' : List ℕ) → Stack a.settings a.files_kept (with_queue queue' t) free
  queue_stack queue' =
      stack_same a.settings a.files_kept a.files_kept t (with_queue queue' t) entry entry live refl refl
      (λ p _. record { file = refl; size = refl; cost = refl; freq = refl; key = refl; stamp = refl }) free stack

  pub one_place : 1 ≤ a.settings.places.0
  one_place = limits.places.0

  -- the queue's bytes are the bytes kept
  pub held_bytes : queue_bytes t.size t.queue a.files_kept ≡ a.bytes_kept.0
  held_bytes =
      sym (sum_covered a.settings t t.queue a.files_kept (distinct t.queue entry a.files_kept h.desk.indexed) (λ r. r.size) a.files_kept
      (shelf_of a.settings.catalogue.0 t) (omega arith) (shelf_covered a.settings a.files_kept a.files_kept t entry live))
      ∙ h.sound.bytes
