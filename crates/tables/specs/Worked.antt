-- Worked tables that are not empty: one file was asked for, kept, and asked for again (document 01, "Tables and the tally"). Assumes nothing.
use Rattle.std.specs.Prelude.{[], ◌∷◌}
use Rattle.amounts.specs.Limits.{no_place}
use Rattle.amounts.specs.declared.settings.Settings.{Settings}
use Rattle.tables.specs.Tables.{Tables}
use Rattle.tables.specs.declared.tally.Tally.{Tally}

-- two places and two file numbers under policy 2
abbrev pub worked_settings : Settings
worked_settings =
    record {
      unit = record { 0 = 7 };
      policy = record { 0 = 2 };
      capacity = record { 0 = 100 };
      places = record { 0 = 2 };
      catalogue = record { 0 = 2 };
    }

-- file 1, of size 64 and cost 4, was admitted and then hit: its key is twice its worth
abbrev pub worked_tally : Tally
worked_tally =
    record {
      settings = worked_settings;
      inflation = record { 0 = 0 };
      bytes_kept = record { 0 = 64 };
      files_kept = 1;
      requests = 2;
      hits = 1;
      admitted = 1;
      passed = 0;
      evicted = 0;
      bytes_asked = record { 0 = 128 };
      hit_bytes = record { 0 = 64 };
      cost_asked = record { 0 = 8 };
      hit_cost = record { 0 = 4 };
      dropped = 0;
      lifts = 0;
    }

-- it has place 1; place 0 is unused
abbrev pub worked_tables : Tables
worked_tables =
    record {
      place = no_place ∷ 1 ∷ [];
      file = 0 ∷ 1 ∷ [];
      size = 0 ∷ 64 ∷ [];
      cost = 0 ∷ 4 ∷ [];
      freq = 0 ∷ 2 ∷ [];
      key = 0 ∷ 2097152 ∷ [];
      stamp = 0 ∷ 1 ∷ [];
      queue = 1 ∷ 0 ∷ [];
    }
