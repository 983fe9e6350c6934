-- Tables that differ in nothing but which place a file takes and the queue's order (document 01, "How much each promise says"). Assumes nothing.
use Rattle.std.specs.Prelude.{◌≡◌, ℕ, ◌≤◌, ◌<◌, eqb, get_or}
use Rattle.amounts.specs.Limits.{pick, no_place}
use Rattle.amounts.specs.declared.settings.Settings.{Settings}
use Rattle.queue.specs.Queue.{times}
use Rattle.tables.specs.Tables.{Tables, Long, record_at}

-- a one-to-one map of the n places onto themselves, and the map back
pub record Renaming (n : ℕ) : Type 0 where
  pub to : ℕ → ℕ
  pub from : ℕ → ℕ
  pub inside : (p : ℕ) → p < n → to p < n
  pub inside_back : (p : ℕ) → p < n → from p < n
  pub there : (p : ℕ) → p < n → to (from p) ≡ p
  pub back : (p : ℕ) → p < n → from (to p) ≡ p

-- an entry of the table by file number: a place under the map, or none
abbrev pub placed : (ℕ → ℕ) → ℕ → ℕ
placed to p = pick (eqb p no_place) no_place (to p)

-- document 01, "The one exception": the needed entries of t and u, each with n files kept, are the same but for a renaming of places and the queue's order
pub record Renamed (s : Settings) (n : ℕ) (t u : Tables) : Type 0 where
  pub long : Long s.places.0 s.catalogue.0 t
  pub long' : Long s.places.0 s.catalogue.0 u
  pub places : Renaming s.places.0
  -- each file has its place, renamed
  pub place : (f : ℕ) → f < s.catalogue.0 → get_or u.place f 0 ≡ placed places.to (get_or t.place f 0)
  -- each place, renamed, has its file and its record
  pub file : (p : ℕ) → p < s.places.0 → get_or u.file (places.to p) 0 ≡ get_or t.file p 0
  pub kept : (p : ℕ) → p < s.places.0 → record_at u (places.to p) ≡ record_at t p
  -- the queue holds each place, renamed, as often; its entries past the files kept are the same
  pub held : (p : ℕ) → p < s.places.0 → times (places.to p) u.queue n ≡ times p t.queue n
  pub rest : (i : ℕ) → n ≤ i → i < s.places.0 → get_or u.queue i 0 ≡ get_or t.queue i 0
