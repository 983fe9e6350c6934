-- The events of a request as they are written (document 01, "Event list"). Assumes nothing.
use Rattle.std.specs.Prelude.{◌≡◌, List, [], ◌∷◌, ℕ, zero, suc, ◌+◌, ◌-◌, ◌≤◌, ◌<◌, length, get_or}
use Rattle.std.proofs.lemmas.List.Edits.{sets}
use Rattle.amounts.specs.Limits.{catalogue_most}
use Rattle.method.specs.Events.{event}

-- document 01, "Event list": k evictions, from the last of n entries down
unfoldable pub evictions : List ℕ → List ℕ → ℕ → ℕ → List ℕ
evictions file queue n zero = []
evictions file queue n (suc k) = event 5 (get_or file (get_or queue (n - 1) 0) 0) ∷ evictions file queue (n - 1) k

-- document 01, "Event list": the entries from m on hold files of the catalogue, and there is room for an event each
pub record Tellable (n m : ℕ) (file queue events : List ℕ) (at : ℕ) : Type 0 where
  pub part : m ≤ n
  pub long : n ≤ length queue
  pub filed : (i : ℕ) → m ≤ i → i < n → get_or queue i 0 < length file
  pub known : (i : ℕ) → m ≤ i → i < n → get_or file (get_or queue i 0) 0 < catalogue_most
  pub room : at + (n - m) ≤ length events

-- document 01, "Event list": the evictions stand from a place on, and every other event is as it was
pub record Told (n m : ℕ) (file queue events : List ℕ) (at : ℕ) (events' : List ℕ) : Type 0 where
  pub written : events' ≡ sets events at (evictions file queue n (n - m))
