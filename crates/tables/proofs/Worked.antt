-- The worked tables are sound, so that soundness does not ask for empty tables. Assumes nothing.
use mathlib.Core.Path.{◌≡◌, refl}
use mathlib.Core.Logic.{◌⊎◌, inl, inr}
use Prim.Native.Nat.{ℕ, zero, suc, ◌≤◌, ◌<◌}
use native.Mathlib.Omega.{arith}
use lib.ListN.{get_or}
use Rattle.amounts.specs.Limits.{no_place}
use Rattle.amounts.specs.Worth.{Valued, worth_of, product_of}
use Rattle.queue.specs.Queue.{total, times}
use Rattle.method.specs.Shelf.{Kept, Shelf, sum, Each}
use Rattle.method.specs.Promise as promise
use Rattle.method.proofs.Shelves.{none_kept, is_kept}
use Rattle.method.proofs.Raising.{whole_sound}
use Rattle.tables.specs.Tables.{record_at, slot_of, shelf_of}
use Rattle.tables.specs.Tally.{store_of, policy_in, state_of}
use Rattle.tables.specs.Sound.{At, Occupied, Zero, Sound}
use Rattle.tables.specs.Worked.{worked_settings, worked_tally, worked_tables}

abbrev shelf : Shelf
shelf = (state_of worked_tally worked_tables).shelf

-- the kept file
abbrev file : Kept
file = record_at worked_tables 1

-- place 1 is occupied, and no other is
occupied : At worked_settings worked_tables 1 1
occupied = record { known = omega arith; inside = omega arith; place = refl; file = refl }

vacant : Occupied worked_settings worked_tables 0 → ⊥
vacant o = omega (arith, o.place)

-- what holds of the kept file holds of each
each : (P : Kept → Type 0) → P file → Each P shelf
unfolding shelf_of slot_of
each P h zero r e = none_kept e
each P h (suc zero) r e = is_kept P file h r e
each P h (suc (suc i)) r e = none_kept e

apart : promise.Apart shelf
unfolding shelf_of slot_of
apart zero j r q a b e = none_kept a
apart (suc zero) zero r q a b e = none_kept b
apart (suc zero) (suc zero) r q a b e = refl
apart (suc zero) (suc (suc j)) r q a b e = none_kept b
apart (suc (suc i)) j r q a b e = none_kept a

out : (f : ℕ) → f < 2 → (get_or worked_tables.place f 0 ≡ no_place) ⊎ At worked_settings worked_tables f (get_or worked_tables.place f 0)
out zero h = inl refl
out (suc zero) h = inr occupied
out (suc (suc f)) h = absurd (omega arith)

unused : (p : ℕ) → p < 2 → (Occupied worked_settings worked_tables p → ⊥) → Zero worked_tables p
unused zero h no-file = record { file = refl; size = refl; cost = refl; freq = refl; key = refl; stamp = refl }
unused (suc zero) h no-file = absurd (no-file occupied)
unused (suc (suc p)) h no-file = absurd (omega arith)

entries : (i : ℕ) → i < 1 → Occupied worked_settings worked_tables (get_or worked_tables.queue i 0)
entries zero h = occupied
entries (suc i) h = absurd (omega arith)

once : (p : ℕ) → Occupied worked_settings worked_tables p → times p worked_tables.queue 1 ≡ 1
unfolding total
once zero o = absurd (vacant o)
once (suc zero) o = refl
once (suc (suc p)) o = absurd (omega (arith, o.inside))

rest : (i : ℕ) → 1 ≤ i → i < 2 → get_or worked_tables.queue i 0 ≡ 0
rest zero h l = absurd (omega arith)
rest (suc zero) h l = refl
rest (suc (suc i)) h l = absurd (omega arith)

in_range_lem : Valued file.size file.cost
in_range_lem = record { size_least = omega arith; size_at_most = omega arith; cost_least = omega arith; cost_at_most = omega arith }

in_sums : promise.SoundAt (policy_in worked_settings) (store_of worked_settings) (state_of worked_tally worked_tables) 2
unfolding shelf_of slot_of sum product_of worth_of
in_sums = record {
  slots = refl;
  bytes = omega arith;
  files = omega arith;
  fine = each (promise.Fine (policy_in worked_settings)) (record { valued = in_range_lem; freq = omega arith; seldom = omega arith; once = tt });
  stamps = each (λ r. r.stamp < 2) (omega arith);
  apart = apart;
  freqs = omega arith;
  keys = each _ (omega arith, omega arith);
  total = omega arith;
}

pub worked : Sound worked_tally worked_tables
unfolding shelf_of slot_of sum
worked = record {
  agreed = record {
    counts = record {
      outcomes = refl;
      bytes = record { hit_least = omega arith; hit_most = omega arith; hit_asked = omega arith; asked_least = omega arith; asked_most = omega arith };
    };
    gone = refl;
    cost = record { hit_least = omega arith; hit_most = omega arith; hit_asked = omega arith; asked_least = omega arith; asked_most = omega arith };
  };
  few = omega arith;
  low = omega arith;
  linked = record { out = out; unused = unused };
  queued = record { entries = entries; once = once; rest = rest };
  ordered = record { order = λ i p l. absurd (omega arith) };
  shelf = whole_sound (policy_in worked_settings) (store_of worked_settings) 0 (state_of worked_tally worked_tables) 2 in_sums (omega (arith, in_sums.total));
  files = refl;
  bytes = refl;
}
