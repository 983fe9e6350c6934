-- A fresh start by its two tests, and what it leaves. Assumes nothing.
use mathlib.Core.Path.{◌≡◌}
use mathlib.Core.Bool.{true, false}
use Rattle.std.proofs.Common.{Ok, Err}
use Rattle.amounts.specs.Settings.{in_range}
use Rattle.amounts.specs.declared.settings.Settings.{Settings}
use Rattle.card.specs.declared.Refusal.TheVariants.{Setting, Short}
use Rattle.tables.specs.Tables.{Tables, cleared}
use Rattle.tables.specs.Tally.{fresh_tally}
use Rattle.tables.specs.Start.{long, start_answer, start_tables, Freshly}

module _ (s : Settings) (t : Tables) where
  pub fresh_1 : in_range s ≡ false → Freshly s t (Err Setting) t
  unfolding start_answer start_tables
  fresh_1 e = record { answer = rw e; lent = rw e }

  pub fresh_2 : in_range s ≡ true → long s t ≡ false → Freshly s t (Err Short) t
  unfolding start_answer start_tables
  fresh_2 e f = record { answer = rw (e, f); lent = rw (e, f) }

  pub fresh_0 : in_range s ≡ true → long s t ≡ true → Freshly s t (Ok (fresh_tally s)) (cleared s.places.0 s.catalogue.0 t)
  unfolding start_answer start_tables
  fresh_0 e f = record { answer = rw (e, f); lent = rw (e, f) }
