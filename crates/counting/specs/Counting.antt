-- The tally with one request more (document 01, "Tables and the tally"). Assumes nothing.
use Rattle.std.specs.Prelude.{ℕ, ◌+◌, ◌-◌, ◌*◌, ◌<◌}
use Rattle.amounts.specs.Limits.{requests_most, lift}
use Rattle.amounts.specs.Worth.{Valued}
use Rattle.method.specs.Method as method
use Rattle.method.specs.Shelf.{bytes, files}
use Rattle.method.specs.Totals.{Totals, counted, Agreed}
use Rattle.method.specs.declared.outcome.Outcome.{Outcome}
use Rattle.method.specs.declared.outcome.Outcome.TheVariants.{Hit, Admitted, Passed}
use Rattle.tables.specs.Tally.{totals_of}
use Rattle.tables.specs.declared.tally.Tally.{Tally}

-- document 01, "Tables and the tally": the tally with the totals y, and with inflation, bytes and files kept; document 02, ticket 5: and with k lifts
abbrev pub tallied_at : Tally → ℕ → ℕ → ℕ → ℕ → Totals → Tally
tallied_at a k l b n y =
    record {
      settings = a.settings;
      inflation = record { 0 = l };
      bytes_kept = record { 0 = b };
      files_kept = n;
      requests = y.requests;
      hits = y.hits;
      admitted = y.admitted;
      passed = y.passed;
      evicted = y.evicted;
      bytes_asked = record { 0 = y.bytes };
      hit_bytes = record { 0 = y.hit_bytes };
      cost_asked = record { 0 = y.cost };
      hit_cost = record { 0 = y.hit_cost };
      dropped = y.dropped;
      lifts = k;
    }

-- document 01, "Tables and the tally": the same with the lifts that it has, which only a lift changes (document 02, ticket 5)
abbrev pub tallied : Tally → ℕ → ℕ → ℕ → Totals → Tally
tallied a l b n y = tallied_at a a.lifts l b n y

-- document 02, ticket 5: the tally of a whole state with k lifts: L is whole inflation less the lifts
abbrev pub whole_tally : Tally → ℕ → method.State → Totals → Tally
whole_tally a k st y = tallied_at a k (st.inflation - k * lift) (bytes st.shelf) (files st.shelf) y

-- document 01, "Tables and the tally": the tally after a request
abbrev pub after : Tally → method.Served method.State → Tally
after a x = tallied a x.state.inflation (bytes x.state.shelf) (files x.state.shelf) (counted (totals_of a) x.reply)

-- document 01, "Tables and the tally": a hit counts its bytes and its cost twice, as asked and as hit
abbrev pub hit_totals : Totals → ℕ → ℕ → Totals
hit_totals y size cost =
    record {
      requests = y.requests + 1;
      hits = y.hits + 1;
      admitted = y.admitted;
      passed = y.passed;
      evicted = y.evicted;
      dropped = y.dropped;
      bytes = y.bytes + size;
      hit_bytes = y.hit_bytes + size;
      cost = y.cost + cost;
      hit_cost = y.hit_cost + cost;
    }

-- document 01, "Tables and the tally": a pass counts only what was asked
abbrev pub pass_totals : Totals → ℕ → ℕ → Totals
pass_totals y size cost =
    record {
      requests = y.requests + 1;
      hits = y.hits;
      admitted = y.admitted;
      passed = y.passed + 1;
      evicted = y.evicted;
      dropped = y.dropped;
      bytes = y.bytes + size;
      hit_bytes = y.hit_bytes;
      cost = y.cost + cost;
      hit_cost = y.hit_cost;
    }

-- document 01, "Tables and the tally": an admission counts what was asked, with so many evicted in all
abbrev pub admitted_totals : Totals → ℕ → ℕ → ℕ → Totals
admitted_totals y size cost evicted =
    record {
      requests = y.requests + 1;
      hits = y.hits;
      admitted = y.admitted + 1;
      passed = y.passed;
      evicted = evicted;
      dropped = y.dropped;
      bytes = y.bytes + size;
      hit_bytes = y.hit_bytes;
      cost = y.cost + cost;
      hit_cost = y.hit_cost;
    }

-- document 01, "Tables and the tally": an admission, with so many evicted for it
abbrev pub admit_totals : Totals → ℕ → ℕ → ℕ → Totals
admit_totals y size cost gone = admitted_totals y size cost (y.evicted + gone)

-- document 01, "Tables and the tally": a hit more, with what is kept as it was
abbrev pub hit_tally : Tally → ℕ → ℕ → Tally
hit_tally a size cost = tallied a a.inflation.0 a.bytes_kept.0 a.files_kept (hit_totals (totals_of a) size cost)

-- document 01, "Tables and the tally": a pass more, with what is kept as it was
abbrev pub pass_tally : Tally → ℕ → ℕ → Tally
pass_tally a size cost = tallied a a.inflation.0 a.bytes_kept.0 a.files_kept (pass_totals (totals_of a) size cost)

-- document 01, "Tables and the tally": an admission more, with what is kept and what was evicted as it was
abbrev pub admit_tally : Tally → ℕ → ℕ → Tally
admit_tally a size cost = tallied a a.inflation.0 a.bytes_kept.0 a.files_kept (admitted_totals (totals_of a) size cost a.evicted)

-- document 01, "Tables and the tally": a request more, by its outcome
abbrev pub counted_tally : Tally → Outcome → ℕ → ℕ → Tally
counted_tally a Hit size cost = hit_tally a size cost
counted_tally a Admitted size cost = admit_tally a size cost
counted_tally a (Passed why) size cost = pass_tally a size cost

-- document 01, "Tables and the tally": one request more can be counted
pub record Countable (a : Tally) (size cost : ℕ) : Type 0 where
  pub few : a.requests < requests_most
  pub agreed : Agreed a.files_kept (totals_of a)
  pub valued : Valued size cost
