-- The tables that a caller lends, and the shelf that they stand for (document 01, "Tables and the tally"). Assumes nothing.
use Rattle.std.specs.Prelude.{Bool, ◌&&◌, List, ◌++◌, map, ℕ, ◌≤◌, leb, eqb, length, get_or, take, drop, replicate}
use Rattle.amounts.specs.Limits.{pick, no_place}
use Rattle.method.specs.Shelf.{Kept, Slot, none, kept, Shelf}

-- document 01, "Tables and the tally": per file number its place; per place the record; the queue of occupied places
pub record Tables : Type 0 where
  pub place : List ℕ
  pub file : List ℕ
  pub size : List ℕ
  pub cost : List ℕ
  pub freq : List ℕ
  pub key : List ℕ
  pub stamp : List ℕ
  pub queue : List ℕ

abbrev pub tables : List ℕ → List ℕ → List ℕ → List ℕ → List ℕ → List ℕ → List ℕ → List ℕ → Tables
tables a b c d e f g h = record { place = a; file = b; size = c; cost = d; freq = e; key = f; stamp = g; queue = h }

-- ---- Needed lengths

-- document 01, "Tables and the tally": catalogue for the table by file number, places for every other
unfoldable pub long_enough : ℕ → ℕ → ℕ → ℕ → ℕ → ℕ → ℕ → ℕ → ℕ → ℕ → Bool
long_enough places catalogue a b c d e f g h =
    leb catalogue a && (leb places b && (leb places c && (leb places d && (leb places e && (leb places f && (leb places g && leb places h))))))

abbrev pub is_long : ℕ → ℕ → Tables → Bool
is_long places catalogue t =
    long_enough places catalogue (length t.place) (length t.file) (length t.size) (length t.cost) (length t.freq) (length t.key) (length t.stamp) (length t.queue)

pub record Long (places catalogue : ℕ) (t : Tables) : Type 0 where
  pub place : catalogue ≤ length t.place
  pub file : places ≤ length t.file
  pub size : places ≤ length t.size
  pub cost : places ≤ length t.cost
  pub freq : places ≤ length t.freq
  pub key : places ≤ length t.key
  pub stamp : places ≤ length t.stamp
  pub queue : places ≤ length t.queue

-- the needed entries of each table
abbrev pub needed : ℕ → ℕ → Tables → Tables
needed places catalogue t =
    record {
      place = take catalogue t.place;
      file = take places t.file;
      size = take places t.size;
      cost = take places t.cost;
      freq = take places t.freq;
      key = take places t.key;
      stamp = take places t.stamp;
      queue = take places t.queue;
    }

-- and those beyond them
abbrev pub beyond : ℕ → ℕ → Tables → Tables
beyond places catalogue t =
    record {
      place = drop catalogue t.place;
      file = drop places t.file;
      size = drop places t.size;
      cost = drop places t.cost;
      freq = drop places t.freq;
      key = drop places t.key;
      stamp = drop places t.stamp;
      queue = drop places t.queue;
    }

-- ---- What they stand for

-- the record at a place
abbrev pub record_at : Tables → ℕ → Kept
record_at t p =
    record { size = get_or t.size p 0; cost = get_or t.cost p 0; freq = get_or t.freq p 0; key = get_or t.key p 0; stamp = get_or t.stamp p 0 }

-- what an entry of the table by file number stands for
unfoldable pub slot_of : Tables → ℕ → Slot
slot_of t p = pick (eqb p no_place) none (kept (record_at t p))

-- the shelf of `method`: which place a file has is not in it
unfoldable pub shelf_of : ℕ → Tables → Shelf
shelf_of catalogue t = map (slot_of t) (take catalogue t.place)

-- ---- Cleared

-- the first n entries are v, the others as they were
unfoldable pub filled : ℕ → ℕ → List ℕ → List ℕ
filled n v l = replicate n v ++ drop n l

-- document 01, "Tables and the tally": every place entry of the catalogue none, every other needed entry 0
abbrev pub cleared : ℕ → ℕ → Tables → Tables
cleared places catalogue t =
    record {
      place = filled catalogue no_place t.place;
      file = filled places 0 t.file;
      size = filled places 0 t.size;
      cost = filled places 0 t.cost;
      freq = filled places 0 t.freq;
      key = filled places 0 t.key;
      stamp = filled places 0 t.stamp;
      queue = filled places 0 t.queue;
    }
