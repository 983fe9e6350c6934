-- What a lift leaves: the whole state that tally and tables stand for (document 02, ticket 5). Assumes nothing.
use Rattle.std.specs.Prelude.{◌≡◌, List, ℕ, ◌<◌}
use Rattle.amounts.specs.Limits.{lift}
use Rattle.method.specs.Whole.{lifted}
use Rattle.tables.specs.Tables.{Tables}
use Rattle.tables.specs.Tally.{whole_of, totals_of}
use Rattle.tables.specs.declared.tally.Tally.{Tally}
use Rattle.shelving.specs.Live.{Running, beyond_of}

-- document 02, ticket 5: the tables with other keys
abbrev pub with_keys : Tables → List ℕ → Tables
with_keys t keys = record { place = t.place; file = t.file; size = t.size; cost = t.cost; freq = t.freq; key = keys; stamp = t.stamp; queue = t.queue }

-- document 02, ticket 5, "no outcome or eviction may depend on a lift": the whole state is the one before; the tables are sound again, L is below one lift, and the lifts are those of the run
pub record Leaves (a : Tally) (t : Tables) (entry free : List ℕ) (b : Tally) (u : Tables) : Type 0 where
  pub whole : whole_of b u ≡ whole_of a t
  pub running : Running b u entry free
  pub ready : b.inflation.0 < lift
  pub lifts : b.lifts ≡ lifted a.lifts (whole_of a t).inflation
  pub settings : b.settings ≡ a.settings
  pub totals : totals_of b ≡ totals_of a
  pub files : b.files_kept ≡ a.files_kept
  pub past : beyond_of a.settings u ≡ beyond_of a.settings t
