-- Settings and requests in range, test by test. Assumes nothing.
use Prim.Native.Nat.{ℕ, ◌≤◌}
use mathlib.Core.Path.{◌≡◌, refl}
use mathlib.Core.Bool.{Bool, true, false}
use native.Mathlib.Omega.{arith}
use borrow.Author.Tests.{leb-true}
use Rattle.amounts.specs.Limits.{pick, unit_most, policy_most, capacity_most, places_most, catalogue_most, is_unit, is_policy, is_capacity, is_places, is_catalogue}
use Rattle.amounts.specs.Settings.{in_range}
use Rattle.amounts.specs.declared.settings.Settings.{Settings}
use Rattle.amounts.proofs.Tests.{one_to_lem}
use Rattle.trace.specs.Number.{number_most}

-- each setting is in its range, and so small enough for a house number
pub record Settled (s : Settings) : Type 0 where
  pub unit : is_unit s.unit.0 ≡ true
  pub policy : is_policy s.policy.0 ≡ true
  pub capacity : is_capacity s.capacity.0 ≡ true
  pub places : is_places s.places.0 ≡ true
  pub catalogue : is_catalogue s.catalogue.0 ≡ true
  pub unit_small : s.unit.0 ≤ number_most
  pub policy_small : s.policy.0 ≤ number_most
  pub capacity_small : s.capacity.0 ≤ number_most
  pub places_small : s.places.0 ≤ number_most
  pub catalogue_small : s.catalogue.0 ≤ number_most

all_true : (a b c d e : Bool) → pick a (pick b (pick c (pick d e false) false) false) false ≡ true
    → (a ≡ true) × (b ≡ true) × (c ≡ true) × (d ≡ true) × (e ≡ true)
all_true true true true true e h = (refl, refl, refl, refl, h)
all_true true true true false e h = let z : ◌≡◌ {A = ℕ} 0 1 = cc in absurd (omega arith)
all_true true true false d e h = let z : ◌≡◌ {A = ℕ} 0 1 = cc in absurd (omega arith)
all_true true false c d e h = let z : ◌≡◌ {A = ℕ} 0 1 = cc in absurd (omega arith)
all_true false b c d e h = let z : ◌≡◌ {A = ℕ} 0 1 = cc in absurd (omega arith)

pub settled : (s : Settings) → in_range s ≡ true → Settled s
unfolding in_range
settled s h =
    let p = all_true (is_unit s.unit.0) (is_policy s.policy.0) (is_capacity s.capacity.0) (is_places s.places.0) (is_catalogue s.catalogue.0) h in
    record {
      unit = p.0;
      policy = p.1;
      capacity = p.2;
      places = p.3;
      catalogue = p.4;
      unit_small = omega (arith, leb-true s.unit.0 unit_most p.0);
      policy_small = omega (arith, one_to_lem policy_most s.policy.0 p.1);
      capacity_small = omega (arith, one_to_lem capacity_most s.capacity.0 p.2);
      places_small = omega (arith, one_to_lem places_most s.places.0 p.3);
      catalogue_small = omega (arith, one_to_lem catalogue_most s.catalogue.0 p.4);
    }
