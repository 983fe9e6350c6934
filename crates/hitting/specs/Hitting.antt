-- A hit, at the tables that it reads and writes (document 01, "The run"). Assumes nothing.
use Rattle.std.specs.Prelude.{◌≡◌, List, ℕ, ◌+◌, ◌≤◌, ◌<◌, length, get_or, set}
use Rattle.amounts.specs.Limits.{frequency_most, word}
use Rattle.amounts.specs.Worth.{Valued, product_of}
use Rattle.queue.specs.Queue.{Holding, Rekeyed}
use Rattle.method.specs.Method.{again}
use Rattle.tables.specs.Tally.{policy_in, totals_of, stamp_of}
use Rattle.tables.specs.declared.tally.Tally.{Tally}
use Rattle.counting.specs.Counting.{tallied, hit_totals, Countable}

-- document 01, "The run": the next frequency of the file at place p
abbrev pub freq_after : Tally → List ℕ → ℕ → ℕ
freq_after a freq p = again (policy_in a.settings) (get_or freq p 0)

-- document 01, "The run": its next key, L + product
abbrev pub key_after : Tally → List ℕ → List ℕ → List ℕ → ℕ → ℕ
key_after a size cost freq p = a.inflation.0 + product_of (freq_after a freq p) (get_or size p 0) (get_or cost p 0)

-- document 01, "The run": what a hit on the file at place p asks
pub record Hittable (a : Tally) (p : ℕ) (size cost freq keys stamps queue entry : List ℕ) : Type 0 where
  pub sized : p < length size
  pub costed : p < length cost
  pub counted : p < length freq
  pub entered : p < length entry
  pub valued : Valued (get_or size p 0) (get_or cost p 0)
  pub seldom : get_or freq p 0 ≤ frequency_most
  pub fits : key_after a size cost freq p < word
  pub holding : Holding queue entry keys stamps a.files_kept (get_or entry p 0)
  pub countable : Countable a (get_or size p 0) (get_or cost p 0)

-- document 01, "The run": what it leaves: frequency, key and stamp of that file are new, L stays
pub record HitDone (a : Tally) (p : ℕ) (size cost freq keys stamps queue entry freq' keys' stamps' queue' entry' : List ℕ) (r : Tally) : Type 0 where
  pub freqs : freq' ≡ set freq p (freq_after a freq p)
  pub rekeyed : Rekeyed queue queue' entry entry' keys keys' stamps stamps' a.files_kept (get_or entry p 0) (key_after a size cost freq p) (stamp_of a)
  pub tally : r ≡ tallied a a.inflation.0 a.bytes_kept.0 a.files_kept (hit_totals (totals_of a) (get_or size p 0) (get_or cost p 0))
