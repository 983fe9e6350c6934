-- A newcomer's record, and the tally with it, where room was made (document 01, "The run"). Assumes nothing.
use Rattle.std.specs.Prelude.{ℕ, ◌+◌, ◌-◌, ◌≤◌, ◌<◌}
use Rattle.amounts.specs.Limits.{word}
use Rattle.amounts.specs.Worth.{Valued}
use Rattle.method.specs.Shelf.{Kept}
use Rattle.method.specs.Method.{Policy, gds, gdsf, keyed}
use Rattle.tables.specs.Tally.{policy_in, stamp_of, totals_of}
use Rattle.tables.specs.declared.tally.Tally.{Tally}
use Rattle.counting.specs.Counting.{tallied, admit_totals, Countable}
use Rattle.shelving.specs.declared.room.Room.{Room}

-- document 01, "The run": the L that the newcomer's key is set with, after the evictions for policy 1 and before them for policy 2
abbrev pub base_of : Policy → ℕ → ℕ → ℕ
base_of gds before after = after
base_of gdsf before after = before

-- document 01, "The run": no key above the newcomer's is taken by policy 2; policy 1 takes any
abbrev pub limit_of : Policy → ℕ → ℕ
limit_of gds key = word - 1
limit_of gdsf key = key

-- document 01, "The run": the newcomer's record, with frequency 1 and the newest stamp
abbrev pub new_record : Tally → ℕ → ℕ → Room → Kept
new_record a z w room = keyed (base_of (policy_in a.settings) a.inflation.0 room.inflation.0) z w 1 (stamp_of a)

-- document 01, "Numbers": its size and cost are in range, and its key fits a word
pub record Worthy (a : Tally) (z w : ℕ) (room : Room) : Type 0 where
  pub valued : Valued z w
  pub fits : (new_record a z w room).key < word

-- document 01, "Tables and the tally": how many were set aside for it
abbrev pub gone_for : Tally → Room → ℕ
gone_for a room = a.files_kept - room.left

-- document 01, "Tables and the tally": the tally with it
abbrev pub admitted_tally : Tally → ℕ → ℕ → Room → Tally
admitted_tally a z w room = tallied a room.inflation.0 (room.bytes.0 + z) (room.left + 1) (admit_totals (totals_of a) z w (gone_for a room))

-- document 01, "Tables and the tally": it can be counted, and what was set aside is a part of what was kept
pub record Admits (a : Tally) (z w : ℕ) (room : Room) : Type 0 where
  pub countable : Countable a z w
  pub part : room.left ≤ a.files_kept
  pub weight : room.bytes.0 + z < word
