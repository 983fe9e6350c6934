-- The files set aside behind the queue, and the tables with them dropped (document 01, "The run" and "Tables and the tally"). Assumes nothing.
use Rattle.std.specs.Prelude.{◌≡◌, List, [], ◌∷◌, ℕ, zero, suc, ◌-◌, ◌≤◌, ◌<◌, length, get_or, set}
use Rattle.amounts.specs.Limits.{no_place, places_most}
use Rattle.amounts.specs.declared.settings.Settings.{Settings}
use Rattle.method.specs.Shelf.{Shelf, none}
use Rattle.method.specs.Method.{Gone}
use Rattle.tables.specs.Tables.{Tables, Long, record_at}
use Rattle.tables.specs.Sound.{Occupied}

-- document 01, "Tables and the tally": the tables with another queue
abbrev pub with_queue : List ℕ → Tables → Tables
with_queue q t = record { place = t.place; file = t.file; size = t.size; cost = t.cost; freq = t.freq; key = t.key; stamp = t.stamp; queue = q }

-- document 01, "Tables and the tally": the file at queue entry i, with what is kept of it
abbrev pub gone_at : Tables → ℕ → Gone
gone_at t i = record { file = get_or t.file (get_or t.queue i 0) 0; was = record_at t (get_or t.queue i 0) }

-- document 01, "The run": the k files behind the queue in the order in which they were set aside: the first stands last of the n entries
unfoldable pub behind : Tables → ℕ → ℕ → List Gone
behind t n zero = []
behind t n (suc k) = gone_at t (n - 1) ∷ behind t (n - 1) k

-- document 01, "The run": a shelf without some files
unfoldable pub without : List Gone → Shelf → Shelf
without [] s = s
without (g ∷ gs) s = without gs (set s g.file none)

-- ---- Dropping

-- document 01, "Tables and the tally": file f has no place, and the record at place p goes back to 0
abbrev pub clear_at : ℕ → ℕ → Tables → Tables
clear_at p f t =
    record {
      place = set t.place f no_place;
      file = set t.file p 0;
      size = set t.size p 0;
      cost = set t.cost p 0;
      freq = set t.freq p 0;
      key = set t.key p 0;
      stamp = set t.stamp p 0;
      queue = t.queue;
    }

-- document 01, "Tables and the tally": the place at the last of n entries
abbrev pub last_place : ℕ → Tables → ℕ
last_place n t = get_or t.queue (n - 1) 0

-- document 01, "Tables and the tally": the file at the last of n entries dropped
abbrev pub drop_last : ℕ → Tables → Tables
drop_last n t = with_queue (set t.queue (n - 1) 0) (clear_at (last_place n t) (get_or t.file (last_place n t) 0) t)

-- document 01, "Tables and the tally": k files dropped, from the last of n entries down
unfoldable pub drop_all : ℕ → ℕ → Tables → Tables
drop_all zero n t = t
drop_all (suc k) n t = drop_all k (n - 1) (drop_last n t)

-- document 01, "Tables and the tally": their places are used again: they go on the stack, which beside n files kept holds places - n
unfoldable pub stack_all : ℕ → ℕ → ℕ → Tables → List ℕ → List ℕ
stack_all places zero n t free = free
stack_all places (suc k) n t free = stack_all places k (n - 1) (drop_last n t) (set free (places - n) (last_place n t))

-- document 01, "Tables and the tally": what dropping asks: each of n entries is an occupied place, each once
pub record Droppable (s : Settings) (n m : ℕ) (t : Tables) (free : List ℕ) : Type 0 where
  pub places : s.places.0 ≤ places_most
  pub long : Long s.places.0 s.catalogue.0 t
  pub free_long : s.places.0 ≤ length free
  pub few : n ≤ s.places.0
  pub part : m ≤ n
  pub entries : (i : ℕ) → i < n → Occupied s t (get_or t.queue i 0)
  pub apart : (i j : ℕ) → i < n → j < n → get_or t.queue i 0 ≡ get_or t.queue j 0 → i ≡ j

-- document 01, "How much each promise says": every lent entry afterwards
pub record Dropped (s : Settings) (n m : ℕ) (t : Tables) (free : List ℕ) (u : Tables) (free' : List ℕ) : Type 0 where
  pub lent : u ≡ drop_all (n - m) n t
  pub stack : free' ≡ stack_all s.places.0 (n - m) n t free
