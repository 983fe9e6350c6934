-- Whether the totals of a tally agree: the conditions of document 01, "Tables and the tally", on the tally alone. Assumes nothing.
use Rattle.method.specs.Totals.{Agreed}
use Rattle.tables.specs.Tally.{totals_of}
use Rattle.tables.specs.Sound.{Few, Low}
use Rattle.tables.specs.declared.tally.Tally.{Tally}

-- document 01: all that soundness asks of the totals, evicted + dropped + files kept = admitted (document 02, ticket 2) and the costs with the rest; and of L by itself (document 02, ticket 5)
pub record Numbers (a : Tally) : Type 0 where
  pub few : Few a
  pub low : Low a
  pub agreed : Agreed a.files_kept (totals_of a)
