-- The totals of a tally, from the replies (document 01, "Tables and the tally"; document 02, ticket 2). Assumes nothing.
use Rattle.std.specs.Prelude.{◌≡◌, List, [], ◌∷◌, ℕ, ◌+◌, ◌*◌, ◌≤◌, length}
use Rattle.amounts.specs.Limits.{size_most, cost_most}
use Rattle.method.specs.Shelf.{Slot, weigh}
use Rattle.method.specs.Method.{Reply}
use Rattle.method.specs.declared.outcome.Outcome.{Outcome}
use Rattle.method.specs.declared.outcome.Outcome.TheVariants.{Hit, Admitted, Passed}

pub record Totals : Type 0 where
  pub requests : ℕ
  pub hits : ℕ
  pub admitted : ℕ
  pub passed : ℕ
  pub evicted : ℕ
  pub dropped : ℕ
  pub bytes : ℕ
  pub hit_bytes : ℕ
  pub cost : ℕ
  pub hit_cost : ℕ

-- n for a hit, 0 for any other outcome; and so for the other two
abbrev pub on_hit : Outcome → ℕ → ℕ
on_hit Hit n = n
on_hit Admitted n = 0
on_hit (Passed w) n = 0

abbrev pub on_admitted : Outcome → ℕ → ℕ
on_admitted Hit n = 0
on_admitted Admitted n = n
on_admitted (Passed w) n = 0

abbrev pub on_passed : Outcome → ℕ → ℕ
on_passed Hit n = 0
on_passed Admitted n = 0
on_passed (Passed w) n = n

-- document 02, ticket 2: 1 where an old copy was dropped
abbrev pub copies : Slot → ℕ
copies x = weigh (λ r. 1) x

-- one reply counted
abbrev pub counted : Totals → Reply → Totals
counted y a =
    record {
      requests = y.requests + 1;
      hits = y.hits + on_hit a.outcome 1;
      admitted = y.admitted + on_admitted a.outcome 1;
      passed = y.passed + on_passed a.outcome 1;
      evicted = y.evicted + length a.evicted;
      dropped = y.dropped + copies a.dropped;
      bytes = y.bytes + a.size;
      hit_bytes = y.hit_bytes + on_hit a.outcome a.size;
      cost = y.cost + a.cost;
      hit_cost = y.hit_cost + on_hit a.outcome a.cost;
    }

-- document 01, "Tables and the tally": the totals after the replies
unfoldable pub totals : Totals → List Reply → Totals
totals y [] = y
totals y (a ∷ bs) = totals (counted y a) bs

-- a fresh start's
abbrev pub zeros : Totals
zeros = record { requests = 0; hits = 0; admitted = 0; passed = 0; evicted = 0; dropped = 0; bytes = 0; hit_bytes = 0; cost = 0; hit_cost = 0 }

-- document 01, "Tables and the tally": hits ≤ hit bytes ≤ hits × most, hit bytes ≤ bytes asked, requests ≤ bytes asked ≤ requests × most; likewise for cost
pub record Amount (most hits requests part whole : ℕ) : Type 0 where
  pub hit_least : hits ≤ part
  pub hit_most : part ≤ hits * most
  pub hit_asked : part ≤ whole
  pub asked_least : requests ≤ whole
  pub asked_most : whole ≤ requests * most

-- document 01, "Tables and the tally": what soundness asks of requests and bytes
pub record Counts (y : Totals) : Type 0 where
  pub outcomes : y.hits + y.admitted + y.passed ≡ y.requests
  pub bytes : Amount size_most y.hits y.requests y.hit_bytes y.bytes

-- document 01, "Tables and the tally": what soundness asks of the totals, with so many files kept
pub record Agreed (kept : ℕ) (y : Totals) : Type 0 where
  pub counts : Counts y
  -- document 02, ticket 2: evicted + dropped + files kept = admitted
  pub gone : y.evicted + y.dropped + kept ≡ y.admitted
  pub cost : Amount cost_most y.hits y.requests y.hit_cost y.cost
