-- The tally, and the state of `method` that it stands for with the tables (document 01, "Tables and the tally"). Assumes nothing.
use Rattle.std.specs.Prelude.{ℕ, ◌*◌}
use Rattle.amounts.specs.Limits.{lift}
use Rattle.amounts.specs.declared.settings.Settings.{Settings}
use Rattle.method.specs.Method as method
use Rattle.method.specs.Totals.{Totals}
use Rattle.method.specs.Whole.{whole}
use Rattle.tables.specs.Tables.{Tables, shelf_of}
use Rattle.tables.specs.declared.tally.Tally.{Tally}

abbrev pub store_of : Settings → method.Settings
store_of s = record { capacity = s.capacity.0; places = s.places.0; catalogue = s.catalogue.0 }

abbrev pub policy_in : Settings → method.Policy
policy_in s = method.policy_of s.policy.0

abbrev pub totals_of : Tally → Totals
totals_of a =
    record {
      requests = a.requests;
      hits = a.hits;
      admitted = a.admitted;
      passed = a.passed;
      evicted = a.evicted;
      dropped = a.dropped;
      bytes = a.bytes_asked.0;
      hit_bytes = a.hit_bytes.0;
      cost = a.cost_asked.0;
      hit_cost = a.hit_cost.0;
    }

-- document 01, "The run": the stamp of the next request is the number of requests served
abbrev pub stamp_of : Tally → ℕ
stamp_of a = a.requests

-- document 01, "Tables and the tally": what the words say by themselves, which is less the lifts (document 02, ticket 5)
abbrev pub state_of : Tally → Tables → method.State
state_of a t = record { inflation = a.inflation.0; shelf = shelf_of a.settings.catalogue.0 t; stamp = stamp_of a }

-- document 02, ticket 5: what tally and tables stand for together, whole inflation and whole keys
abbrev pub whole_of : Tally → Tables → method.State
whole_of a t = whole (a.lifts * lift) (state_of a t)

-- document 01, "Tables and the tally": the unit, the settings and zeros
abbrev pub fresh_tally : Settings → Tally
fresh_tally s =
    record {
      settings = s;
      inflation = record { 0 = 0 };
      bytes_kept = record { 0 = 0 };
      files_kept = 0;
      requests = 0;
      hits = 0;
      admitted = 0;
      passed = 0;
      evicted = 0;
      bytes_asked = record { 0 = 0 };
      hit_bytes = record { 0 = 0 };
      cost_asked = record { 0 = 0 };
      hit_cost = record { 0 = 0 };
      dropped = 0;
      lifts = 0;
    }
