-- Whether records and sums are within their bounds: the conditions of document 01, "Tables and the tally", on each file's record and on all of them together. Assumes nothing.
use Rattle.std.specs.Prelude.{◌≡◌, ◌⊎◌, true, List, ℕ, ◌+◌, ◌*◌, ◌≤◌, ◌<◌, length, get_or}
use Rattle.amounts.specs.Limits.{requests_most, frequency_most, lift, catalogue_most, no_place}
use Rattle.amounts.specs.Worth.{Valued, worth_most}
use Rattle.amounts.specs.Settings.{in_range}
use Rattle.amounts.specs.declared.settings.Settings.{Settings}
use Rattle.method.specs.Shelf.{Kept, Shelf, sum, bytes, files, product}
use Rattle.method.specs.Method.{Policy}
use Rattle.method.specs.Promise.{Fine}
use Rattle.tables.specs.Tables.{Tables, tables, Long, record_at, shelf_of}
use Rattle.tables.specs.Tally.{policy_in}
use Rattle.tables.specs.Sound.{At}
use Rattle.tables.specs.declared.tally.Tally.{Tally}
use Rattle.weighing.specs.declared.sums.Sums.{Sums}

-- ---- The files

-- document 01, "Needed lengths": beside some queue the tables are long enough
pub record Covered (places catalogue : ℕ) (t : Tables) : Type 0 where
  pub queue : List ℕ
  pub long : Long places catalogue (tables t.place t.file t.size t.cost t.freq t.key t.stamp queue)

-- document 01: a record in range, its stamp below requests, L ≤ key ≤ L + product
pub record Right (p : Policy) (l n : ℕ) (r : Kept) : Type 0 where
  pub fine : Fine p r
  pub stamp : r.stamp < n
  pub key_least : l ≤ r.key
  pub key_most : r.key ≤ l + product r

-- document 01: a file has no place, or one that points back at it and holds a record that is right
abbrev pub Lawful : Settings → ℕ → ℕ → Tables → ℕ → Type 0
Lawful s l n t f =
    (get_or t.place f 0 ≡ no_place) ⊎ (At s t f (get_or t.place f 0) × Right (policy_in s) l n (record_at t (get_or t.place f 0)))

-- every file of the catalogue is lawful
abbrev pub AllLawful : Settings → ℕ → ℕ → Tables → Type 0
AllLawful s l n t = (f : ℕ) → f < s.catalogue.0 → Lawful s l n t f

-- ---- The sums over the shelf, which a pass reads by the places of its files

-- what the sums ask: each of n files has no place, or one that the tables by place have, with a size and a cost in force there and a frequency within its limit, so that each product is below one lift (document 02, ticket 5)
pub record Weighable (n : ℕ) (t : Tables) : Type 0 where
  pub long : n ≤ length t.place
  pub few : n ≤ catalogue_most
  pub inside : (f : ℕ) → f < n → (get_or t.place f 0 ≡ no_place) ⊎ ((get_or t.place f 0 < length t.size) × (get_or t.place f 0 < length t.freq))
  pub valued : (f : ℕ) → f < n → (get_or t.place f 0 ≡ no_place) ⊎ ((get_or t.place f 0 < length t.cost) × Valued (get_or t.size (get_or t.place f 0) 0) (get_or t.cost (get_or t.place f 0) 0))
  pub seldom : (f : ℕ) → f < n → (get_or t.place f 0 ≡ no_place) ⊎ (get_or t.freq (get_or t.place f 0) 0 ≤ frequency_most)

-- the sums that fit a word whatever the tables hold
pub record Summed (s : Shelf) (r : Sums) : Type 0 where
  pub files : r.files ≡ files s
  pub bytes : r.bytes.0 ≡ bytes s
  pub freqs : r.freqs ≡ sum (λ k. k.freq) s

-- document 01: the sums over the files against the tally
pub record Balanced (a : Tally) (s : Shelf) : Type 0 where
  pub files : files s ≡ a.files_kept
  pub bytes : bytes s ≡ a.bytes_kept.0
  pub fits : a.bytes_kept.0 ≤ a.settings.capacity.0
  pub freqs : sum (λ r. r.freq) s ≤ a.requests
  -- document 02, ticket 5: judged on whole inflation, exact past 64 bits
  pub total : a.lifts * lift + a.inflation.0 + sum product s ≤ a.requests * worth_most

-- ---- The files and the sums together

-- what the passes over the files ask
pub record Shelvable (a : Tally) (t : Tables) : Type 0 where
  pub range : in_range a.settings ≡ true
  pub long : Covered a.settings.places.0 a.settings.catalogue.0 t
  pub few : a.requests ≤ requests_most

-- document 01: every file is lawful, and the sums are those of the tally: all that is asked of the files but that each stamp is its own
pub record Filed (a : Tally) (t : Tables) : Type 0 where
  pub lawful : AllLawful a.settings a.inflation.0 a.requests t
  pub balanced : Balanced a (shelf_of a.settings.catalogue.0 t)
