-- What a fresh start leaves is sound. Assumes nothing.
use mathlib.Core.Path.{◌≡◌, sym, ap, ◌∙◌, subst}
use mathlib.Core.Logic.{inl}
use mathlib.Core.Bool.{true}
use mathlib.Core.List.{List}
use Prim.Native.Nat.{ℕ, ◌<◌}
use native.Mathlib.Omega.{arith}
use lib.ListN.{get_or}
use Rattle.amounts.specs.Limits.{no_place}
use Rattle.amounts.specs.Settings.{in_range}
use Rattle.amounts.specs.declared.settings.Settings.{Settings}
use Rattle.method.specs.Shelf.{Shelf, files, bytes}
use Rattle.method.specs.Method.{fresh}
use Rattle.method.specs.Promise as promise
use Rattle.method.proofs.Shelves.{sum_none}
use Rattle.method.proofs.Sound as method
use Rattle.method.proofs.Raising.{whole_sound}
use Rattle.method.proofs.Agreement.{zeros_agreed}
use Rattle.tables.specs.Tables.{Tables, shelf_of, cleared, filled}
use Rattle.tables.specs.Tally.{store_of, policy_in, state_of, fresh_tally}
use Rattle.tables.specs.Sound.{Occupied, Zero, Sound}
use Rattle.tables.proofs.Lists.{at_filled}
use Rattle.tables.proofs.Shelves.{fresh_shelf}
use Rattle.tables.proofs.Ranges.{bounded}

module _ (s : Settings) (t : Tables) (h : in_range s ≡ true) where
  abbrev u : Tables
  u = cleared s.places.0 s.catalogue.0 t

  unplaced : (f : ℕ) → f < s.catalogue.0 → get_or u.place f 0 ≡ no_place
  unplaced f l = at_filled s.catalogue.0 no_place t.place f l

  unoccupied : (p : ℕ) → Occupied s u p → ⊥
  unoccupied p o = omega (arith, o.inside, o.place, unplaced _ o.known, (bounded s h).places.1)

  zero_at : (l : List ℕ) (p : ℕ) → p < s.places.0 → get_or (filled s.places.0 0 l) p 0 ≡ 0
  zero_at l p b = at_filled s.places.0 0 l p b

  zero : (p : ℕ) → p < s.places.0 → Zero u p
  zero p b =
      let z : (l : List ℕ) → get_or (filled s.places.0 0 l) p 0 ≡ 0 = λ l. zero_at l p b in
      record { file = z t.file; size = z t.size; cost = z t.cost; freq = z t.freq; key = z t.key; stamp = z t.stamp }

  shelf_is : shelf_of s.catalogue.0 u ≡ (fresh (store_of s)).shelf
  shelf_is = fresh_shelf s.places.0 s.catalogue.0 t

  near : promise.SoundAt (policy_in s) (store_of s) (state_of (fresh_tally s) u) 0
  near = subst (λ (x : Shelf). promise.Sound (policy_in s) (store_of s) 0 x 0 0) (sym shelf_is) (method.fresh_sound (policy_in s) (store_of s))

  pub fresh_sound : Sound (fresh_tally s) (cleared s.places.0 s.catalogue.0 t)
  fresh_sound = record {
    agreed = zeros_agreed;
    few = omega arith;
    low = omega arith;
    linked = record { out = λ f l. inl (unplaced f l); unused = λ p l _. zero p l };
    queued = record { entries = λ i l. absurd (omega arith); once = λ p o. absurd (unoccupied p o); rest = λ i _ l. zero_at t.queue i l };
    ordered = record { order = λ i _ l. absurd (omega arith) };
    shelf = whole_sound (policy_in s) (store_of s) 0 (state_of (fresh_tally s) u) 0 near (omega (arith, near.total));
    files = ap files shelf_is ∙ method.fresh_files (store_of s);
    bytes = ap bytes shelf_is ∙ sum_none (λ r. r.size) (fresh (store_of s)).shelf (omega (arith, method.fresh_files (store_of s)));
  }
