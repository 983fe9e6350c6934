-- When a tally and tables are sound: the conditions of document 01, "Tables and the tally", in its order. Assumes nothing.
use Rattle.std.specs.Prelude.{◌≡◌, ◌⊎◌, Bool, true, false, List, ℕ, ◌+◌, ◌*◌, ◌≤◌, ◌<◌, length, get_or}
use Rattle.amounts.specs.Limits.{requests_most, lift, no_place}
use Rattle.amounts.specs.declared.settings.Settings.{Settings}
use Rattle.queue.specs.Queue.{times, Ordered, Indexed}
use Rattle.method.specs.Shelf.{bytes, files}
use Rattle.method.specs.Totals.{Counts, Agreed}
use Rattle.method.specs.Promise.{SoundAt}
use Rattle.tables.specs.Tables.{Tables}
use Rattle.tables.specs.Tally.{store_of, policy_in, totals_of, state_of, whole_of}
use Rattle.tables.specs.declared.tally.Tally.{Tally}

-- document 02, ticket 5: at most 4,294,967,295 requests
abbrev pub Few : Tally → Type 0
Few a = a.requests ≤ requests_most

-- document 02, ticket 5: L below 2 to the 61st
abbrev pub Low : Tally → Type 0
Low a = a.inflation.0 < 2 * lift

-- document 01: hits + admitted + passed = requests, with that limit, and bytes asked and hit bytes within their bounds: what a ratio asks of a tally (document 02, ticket 3)
pub record Counted (a : Tally) : Type 0 where
  pub few : Few a
  pub counts : Counts (totals_of a)

-- file f has place p, and the place has the file
pub record At (s : Settings) (t : Tables) (f p : ℕ) : Type 0 where
  pub known : f < s.catalogue.0
  pub inside : p < s.places.0
  pub place : get_or t.place f 0 ≡ p
  pub file : get_or t.file p 0 ≡ f

-- a place is occupied where it and its file point at each other
abbrev pub Occupied : Settings → Tables → ℕ → Type 0
Occupied s t p = At s t (get_or t.file p 0) p

-- the record at a place is 0
pub record Zero (t : Tables) (p : ℕ) : Type 0 where
  pub file : get_or t.file p 0 ≡ 0
  pub size : get_or t.size p 0 ≡ 0
  pub cost : get_or t.cost p 0 ≡ 0
  pub freq : get_or t.freq p 0 ≡ 0
  pub key : get_or t.key p 0 ≡ 0
  pub stamp : get_or t.stamp p 0 ≡ 0

-- document 01: unused places are 0
abbrev pub Unused : Settings → Tables → Type 0
Unused s t = (p : ℕ) → p < s.places.0 → (Occupied s t p → ⊥) → Zero t p

-- document 01: the first n queue entries hold occupied places
abbrev pub Entries : Settings → ℕ → Tables → Type 0
Entries s n t = (i : ℕ) → i < n → Occupied s t (get_or t.queue i 0)

-- document 01: queue entries past the n files kept are 0
abbrev pub Rest : Settings → ℕ → Tables → Type 0
Rest s n t = (i : ℕ) → n ≤ i → i < s.places.0 → get_or t.queue i 0 ≡ 0

-- document 01: places and file numbers point at each other both ways; unused places are 0
pub record Linked (s : Settings) (t : Tables) : Type 0 where
  pub out : (f : ℕ) → f < s.catalogue.0 → (get_or t.place f 0 ≡ no_place) ⊎ At s t f (get_or t.place f 0)
  pub unused : Unused s t

-- document 01: the queue holds each occupied place once; queue entries past the n files kept are 0
pub record Queued (s : Settings) (n : ℕ) (t : Tables) : Type 0 where
  pub entries : Entries s n t
  pub once : (p : ℕ) → Occupied s t p → times p t.queue n ≡ 1
  pub rest : Rest s n t

pub record Sound (a : Tally) (t : Tables) : Type 0 where
  -- hits + admitted + passed = requests, evicted + dropped + files kept = admitted (document 02, ticket 2), and the totals against their bounds
  pub agreed : Agreed a.files_kept (totals_of a)
  pub few : Few a
  pub low : Low a
  pub linked : Linked a.settings t
  pub queued : Queued a.settings a.files_kept t
  -- no entry lower than the one above it
  pub ordered : Ordered t.queue t.key t.stamp a.files_kept
  -- each record in range with a stamp of its own below requests; frequencies, sizes, whole keys, whole inflation and products within their bounds
  pub shelf : SoundAt (policy_in a.settings) (store_of a.settings) (whole_of a t) a.requests
  -- files and bytes kept are those of the shelf
  pub files : files (state_of a t).shelf ≡ a.files_kept
  pub bytes : bytes (state_of a t).shelf ≡ a.bytes_kept.0

-- ---- What the call's own lists hold beside sound tables

-- the first places - n entries of the stack are unused places, each once
pub record Spare (s : Settings) (n : ℕ) (t : Tables) (free : List ℕ) : Type 0 where
  pub unused : (i : ℕ) → i + n < s.places.0 → (get_or free i 0 < s.places.0) × (Occupied s t (get_or free i 0) → ⊥)
  pub apart : (i j : ℕ) → i + n < s.places.0 → j + n < s.places.0 → get_or free i 0 ≡ get_or free j 0 → i ≡ j

-- which queue entry holds a place, and the stack of free places
pub record Desk (a : Tally) (t : Tables) (entry free : List ℕ) : Type 0 where
  pub indexed : Indexed t.queue entry a.files_kept
  pub spare : Spare a.settings a.files_kept t free

-- what the judge promises: yes exactly for sound tables, and then the call's own lists are ready
-- on no only their lengths are promised: they are lists of the call's own, in no caller's memory, and a call that is refused reads them no more
pub record Verdict (a : Tally) (t : Tables) (entry entry' free free' : List ℕ) (answer : Bool) : Type 0 where
  pub yes : answer ≡ true → Sound a t
  pub no : answer ≡ false → Sound a t → ⊥
  pub ready : answer ≡ true → Desk a t entry' free'
  pub entry_long : length entry' ≡ length entry
  pub free_long : length free' ≡ length free
