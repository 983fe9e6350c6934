-- What each pass of the judge decides, in the words of soundness. Assumes nothing.
use Rattle.std.specs.Prelude.{◌≡◌, ◌⊎◌, Bool, true, false, not, List, ℕ, ◌≤◌, ◌<◌, eqb, length, get_or}
use Rattle.amounts.specs.Limits.{places_most, no_place}
use Rattle.amounts.specs.declared.settings.Settings.{Settings}
use Rattle.queue.specs.Queue.{one, total, times, Indexed, Whole}
use Rattle.tables.specs.Tables.{Tables}
use Rattle.tables.specs.Below.{sum_below}
use Rattle.tables.specs.Sound.{Occupied, Unused, Entries, Queued, Spare}
use Rattle.tables.specs.Exact.{Exact}
use Rattle.weighing.specs.Weighing.{Covered}

-- ---- The queue

-- what the pass over the queue asks: n is not too many, and the lists that it reads are long enough
pub record Indexable (s : Settings) (n : ℕ) (t : Tables) (entry : List ℕ) : Type 0 where
  pub few : n ≤ s.places.0
  pub most : s.places.0 ≤ places_most
  pub place_long : s.catalogue.0 ≤ length t.place
  pub file_long : s.places.0 ≤ length t.file
  pub queue_long : s.places.0 ≤ length t.queue
  pub entry_long : s.places.0 ≤ length entry

-- no place is noted in the index yet
abbrev pub Unnoted : Settings → List ℕ → Type 0
Unnoted s entry = (p : ℕ) → p < s.places.0 → get_or entry p 0 ≡ no_place

-- the index has nothing for a place, or the one of the first n entries that holds it
abbrev pub Notes : ℕ → List ℕ → List ℕ → ℕ → Type 0
Notes n queue entry p = (get_or entry p 0 ≡ no_place) ⊎ ((get_or entry p 0 < n) × (get_or queue (get_or entry p 0) 0 ≡ p))

-- the first n entries hold occupied places, each once, and the index says of each place which holds it
pub record Index (s : Settings) (n : ℕ) (t : Tables) (entry : List ℕ) : Type 0 where
  pub entries : Entries s n t
  pub indexed : Indexed t.queue entry n
  pub notes : (p : ℕ) → p < s.places.0 → Notes n t.queue entry p

-- what it leaves: an index on yes, and on no a list of the call's own of which only the length is promised
pub record Noted (s : Settings) (n : ℕ) (t : Tables) (entry entry' : List ℕ) (answer : Bool) : Type 0 where
  pub yes : answer ≡ true → Index s n t entry'
  pub no : answer ≡ false → Queued s n t → ⊥
  pub long : length entry' ≡ length entry

-- ---- The places

-- 1 for a place that the index has an entry for
abbrev pub noted : List ℕ → ℕ → ℕ
noted entry p = one (not (eqb (get_or entry p 0) no_place))

-- what the pass over the places asks: whatever the index has an entry for is occupied
pub record Stackable (s : Settings) (t : Tables) (entry free : List ℕ) : Type 0 where
  pub long : Covered s.places.0 s.catalogue.0 t
  pub most : s.places.0 ≤ places_most
  pub entry_long : s.places.0 ≤ length entry
  pub free_long : s.places.0 ≤ length free
  pub occupied : (p : ℕ) → p < s.places.0 → (get_or entry p 0 ≡ no_place → ⊥) → Occupied s t p

-- document 01: the index has each occupied place, and unused places are 0
pub record Used (s : Settings) (t : Tables) (entry : List ℕ) : Type 0 where
  pub indexed : (p : ℕ) → p < s.places.0 → Occupied s t p → get_or entry p 0 ≡ no_place → ⊥
  pub unused : Unused s t

-- what it leaves: the stack on yes, and on no a list of the call's own of which only the length is promised
pub record Stacked (s : Settings) (t : Tables) (entry free free' : List ℕ) (answer : Bool) : Type 0 where
  pub exact : Exact (Used s t entry) answer
  pub spare : answer ≡ true → Spare s (sum_below (noted entry) s.places.0) t free'
  pub long : length free' ≡ length free

-- ---- The stamps

-- document 01: no two of the first n entries have one stamp
abbrev pub Own : List ℕ → List ℕ → ℕ → Type 0
Own queue stamp n = (i j : ℕ) → i < n → j < n → get_or stamp (get_or queue i 0) 0 ≡ get_or stamp (get_or queue j 0) 0 → i ≡ j

-- what the pass over the stamps asks
pub record Stamped (n : ℕ) (queue stamp : List ℕ) : Type 0 where
  pub few : n ≤ places_most
  pub long : n ≤ length queue
  pub inside : (i : ℕ) → i < n → (get_or queue i 0 < length stamp) × (get_or queue i 0 < places_most)
  pub apart : (i j : ℕ) → i < n → j < n → get_or queue i 0 ≡ get_or queue j 0 → i ≡ j

-- the first n entries of the sorted list hold the places that those of the queue hold, lowest stamp first
pub record Sorted (n : ℕ) (queue stamp sorted index : List ℕ) : Type 0 where
  pub whole : Whole sorted index stamp stamp n
  pub held : (f : ℕ → ℕ) → total f sorted n ≡ total f queue n

-- no two places that the first n entries hold have one stamp
abbrev pub Alone : List ℕ → List ℕ → ℕ → Type 0
Alone stamp sorted n = (p q : ℕ) → 1 ≤ times p sorted n → 1 ≤ times q sorted n → get_or stamp p 0 ≡ get_or stamp q 0 → p ≡ q
