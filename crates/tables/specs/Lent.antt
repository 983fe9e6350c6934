-- The lent tables as the code hands them on: what they hold, and that they are the caller's own. Assumes nothing.
use Rattle.std.specs.Prelude.{◌≡◌, List, ℕ, length}
use Rattle.tables.specs.Tables.{Tables, tables}
use Rattle.tables.specs.declared.table_lengths.TableLengths.{TableLengths}
use Rattle.tables.specs.declared.shown.Tables as seen
use Rattle.tables.specs.declared.records.Records as lent

-- document 01, "Tables and the tally": the eight tables to be looked at
abbrev pub shown : seen.Tables → Tables
shown t = tables t.place.now t.file.now t.size.now t.cost.now t.freq.now t.key.now t.stamp.now t.queue.now

-- document 01, "Tables and the tally": how many entries each has
abbrev pub lengths_of : Tables → TableLengths
lengths_of t =
    record {
      place = length t.place;
      file = length t.file;
      size = length t.size;
      cost = length t.cost;
      freq = length t.freq;
      key = length t.key;
      stamp = length t.stamp;
      queue = length t.queue;
    }

-- document 01, "Tables and the tally": the eight tables, of which three go beside the others
abbrev pub tables_of : lent.Records → List ℕ → List ℕ → List ℕ → Tables
tables_of r key stamp queue = tables r.place.now r.file.now r.size.now r.cost.now r.freq.now key stamp queue

-- the caller's own slices are lent on, so what is written to them the caller has
pub record Same (r r' : lent.Records) : Type 0 where
  pub place : r'.place.ghost_name ≡ r.place.ghost_name
  pub file : r'.file.ghost_name ≡ r.file.ghost_name
  pub size : r'.size.ghost_name ≡ r.size.ghost_name
  pub cost : r'.cost.ghost_name ≡ r.cost.ghost_name
  pub freq : r'.freq.ghost_name ≡ r.freq.ghost_name

-- document 01, "The run": of the records nothing but frequencies changes on a hit
pub record Refrequented (r r' : lent.Records) : Type 0 where
  pub place : r'.place.now ≡ r.place.now
  pub file : r'.file.now ≡ r.file.now
  pub size : r'.size.now ≡ r.size.now
  pub cost : r'.cost.now ≡ r.cost.now
