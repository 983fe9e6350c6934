-- The seven tables of records, for the leaves that leave the queue alone. Assumes nothing.
use Rattle.std.specs.Prelude.{List, [], ◌≡◌, ℕ, ◌<◌, length, set}
use Rattle.queue.specs.Queue.{Insertable, Inserted}
use Rattle.method.specs.Shelf as method
use Rattle.tables.specs.Tables.{Tables}
use Rattle.shelving.specs.declared.records.Kept.{Kept}

-- document 01, "Tables and the tally": the tables but for the queue
abbrev pub seven : List ℕ → List ℕ → List ℕ → List ℕ → List ℕ → List ℕ → List ℕ → Tables
seven a b c d e f g = record { place = a; file = b; size = c; cost = d; freq = e; key = f; stamp = g; queue = [] }

-- document 01, "Needed lengths": a place and a file number are within the tables
pub record Within (p f : ℕ) (t : Tables) : Type 0 where
  pub place : f < length t.place
  pub file : p < length t.file
  pub size : p < length t.size
  pub cost : p < length t.cost
  pub freq : p < length t.freq
  pub key : p < length t.key
  pub stamp : p < length t.stamp

-- document 01, "Tables and the tally": a record that tables of 16-, 32- and 64-bit numbers can hold
pub record Holdable (p f : ℕ) (k : Kept) : Type 0 where
  pub place : p < 65536
  pub file : f < 65536
  pub size : k.size.0 < 4294967296
  pub cost : k.cost.0 < 65536
  pub freq : k.freq < 4294967296

-- document 01, "The run": what the record stands for
abbrev pub kept_of : Kept → method.Kept
kept_of k = record { size = k.size.0; cost = k.cost.0; freq = k.freq; key = k.key.0; stamp = k.stamp }

-- document 01, "The run": file f is kept at place p with the record k
abbrev pub put_at : ℕ → ℕ → method.Kept → Tables → Tables
put_at p f k t =
    record {
      place = set t.place f p;
      file = set t.file p f;
      size = set t.size p k.size;
      cost = set t.cost p k.cost;
      freq = set t.freq p k.freq;
      key = set t.key p k.key;
      stamp = set t.stamp p k.stamp;
      queue = t.queue;
    }

-- document 01, "The run": what keeping a file at place p asks: the place is free and not in the queue of n entries
pub record Keepable (n p f : ℕ) (k : Kept) (t : Tables) (queue entry : List ℕ) : Type 0 where
  pub within : Within p f t
  pub holdable : Holdable p f k
  pub insertable : Insertable queue entry t.key t.stamp n p

-- document 01, "The run": what it leaves: u are the seven tables afterwards
pub record Keeps (n p f : ℕ) (k : Kept) (t u : Tables) (queue entry queue' entry' : List ℕ) : Type 0 where
  pub lent : u ≡ put_at p f (kept_of k) t
  pub inserted : Inserted queue queue' entry entry' u.key u.stamp n p
