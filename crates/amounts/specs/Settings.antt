-- The five settings in their order (document 01, "Trace bytes"). Assumes nothing.
use Rattle.std.specs.Prelude.{Bool, false}
use Rattle.amounts.specs.Limits.{pick, is_unit, is_policy, is_capacity, is_places, is_catalogue}
use Rattle.amounts.specs.declared.settings.Settings.{Settings}

-- document 01, "Numbers": each setting is in its range
unfoldable pub in_range : Settings → Bool
in_range s =
    pick (is_unit s.unit.0)
    (pick (is_policy s.policy.0)
    (pick (is_capacity s.capacity.0)
    (pick (is_places s.places.0) (is_catalogue s.catalogue.0) false)
    false)
    false)
    false
