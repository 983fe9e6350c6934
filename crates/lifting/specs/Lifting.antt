-- A lift: one amount is taken from L and from the key of every file kept (document 02, ticket 5). Assumes nothing.
use Rattle.std.specs.Prelude.{◌≡◌, List, ℕ, ◌+◌, ◌-◌, ◌*◌, ◌≤◌, ◌<◌, length, get_or}
use Rattle.amounts.specs.Limits.{lift, word}
use Rattle.queue.specs.Queue.{Reach, times}
use Rattle.tables.specs.Tally.{totals_of}
use Rattle.tables.specs.declared.tally.Tally.{Tally}
use Rattle.counting.specs.Counting.{tallied_at}

-- document 02, ticket 5: the first n entries can be read, and each place has what is taken from it
pub record Liftable (queue keys : List ℕ) (n : ℕ) : Type 0 where
  pub long : n ≤ length queue
  pub keyed : Reach queue n keys
  pub enough : (p : ℕ) → times p queue n * lift ≤ get_or keys p 0

-- document 02, ticket 5: one lift is taken from a key for each time that the first n entries hold its place: once where a file is kept, else never
pub record Lifted (queue keys keys' : List ℕ) (n : ℕ) : Type 0 where
  pub long : length keys' ≡ length keys
  pub less : (p : ℕ) → get_or keys' p 0 + times p queue n * lift ≡ get_or keys p 0

-- document 02, ticket 5: that amount is taken from L, and the tally's `lifts` goes up by one
abbrev pub one_more : Tally → Tally
one_more a = tallied_at a (a.lifts + 1) (a.inflation.0 - lift) a.bytes_kept.0 a.files_kept (totals_of a)

-- document 02, ticket 5: what a lift asks, where L has reached it
pub record Raisable (a : Tally) (queue keys : List ℕ) : Type 0 where
  pub few : a.lifts + 1 < word
  pub liftable : lift ≤ a.inflation.0 → Liftable queue keys a.files_kept

-- document 02, ticket 5: nothing changes while L is below one lift; when it has reached it, one lift is taken from L and from the key of every file kept
pub data Raised (a : Tally) (queue keys keys' : List ℕ) (r : Tally) : Type 0 where
  stays : a.inflation.0 < lift → r ≡ a → keys' ≡ keys → Raised a queue keys keys' r
  rises : lift ≤ a.inflation.0 → r ≡ one_more a → Lifted queue keys keys' a.files_kept → Raised a queue keys keys' r
