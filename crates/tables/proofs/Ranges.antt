-- What settings in range say of the numbers. Assumes nothing.
use mathlib.Core.Path.{◌≡◌, refl}
use mathlib.Core.Bool.{Bool, true, false}
use Prim.Native.Nat.{ℕ, ◌≤◌}
use native.Mathlib.Omega.{arith}
use Rattle.amounts.specs.Limits.{pick, policy_most, capacity_most, places_most, catalogue_most, is_unit, is_policy, is_capacity, is_places, is_catalogue}
use Rattle.amounts.specs.Settings.{in_range}
use Rattle.amounts.specs.declared.settings.Settings.{Settings}
use Rattle.amounts.proofs.Tests.{one_to_lem}

both : (a b : Bool) → pick a b false ≡ true → (a ≡ true) × (b ≡ true)
both true b e = (refl, e)
both false b e = let z : ◌≡◌ {A = ℕ} 0 1 = cc in absurd (let h : ⊥ = omega arith in h)

-- document 01, "Numbers": policy, capacity, places and catalogue within their limits
pub record Bounded (s : Settings) : Type 0 where
  pub policy : (1 ≤ s.policy.0) × (s.policy.0 ≤ policy_most)
  pub capacity : (1 ≤ s.capacity.0) × (s.capacity.0 ≤ capacity_most)
  pub places : (1 ≤ s.places.0) × (s.places.0 ≤ places_most)
  pub catalogue : (1 ≤ s.catalogue.0) × (s.catalogue.0 ≤ catalogue_most)

pub bounded : (s : Settings) → in_range s ≡ true → Bounded s
unfolding in_range
bounded s e =
    let d = is_catalogue s.catalogue.0 in let c = pick (is_places s.places.0) d false in
    let b = pick (is_capacity s.capacity.0) c false in let a = pick (is_policy s.policy.0) b false in
    let p = both (is_unit s.unit.0) a e in let q = both (is_policy s.policy.0) b p.1 in
    let r = both (is_capacity s.capacity.0) c q.1 in let t = both (is_places s.places.0) d r.1 in
    record {
      policy = one_to_lem policy_most s.policy.0 q.0;
      capacity = one_to_lem capacity_most s.capacity.0 r.0;
      places = one_to_lem places_most s.places.0 t.0;
      catalogue = one_to_lem catalogue_most s.catalogue.0 t.1;
    }
