-- The sheet that the program prints, as a function of the trace's bytes (document 01, "The sheet"). Assumes nothing.
use Rattle.std.specs.Prelude.{ℕ, Bool, ◌&&◌, List, leb, length}
use Rattle.amounts.specs.Limits.{pick}
use Rattle.amounts.specs.Requests.{Request}
use Rattle.amounts.specs.declared.settings.Settings.{Settings}
use Rattle.card.specs.Card.{card_of}
use Rattle.method.specs.Method.{State, Run, run, step, fresh}
use Rattle.method.specs.Events.{events}
use Rattle.method.specs.Whole.{lifts_of}
use Rattle.trace.specs.Reading.{Read, good, stop, read_of, Opened, opened, shut, settings_of}
use Rattle.tables.specs.Tally.{store_of, policy_in, fresh_tally}
use Rattle.tables.specs.declared.tally.Tally.{Tally}
use Rattle.parts.specs.Parts.{tally_of}
use Rattle.lines.specs.Lines.{refused_line, page}

-- ---- Limits

-- document 01, "Numbers on the red card", 9: the most bytes of input
abbrev pub input_most : ℕ
input_most = 16384

-- document 01, "The sheet": the program's own tables
abbrev pub own_places : ℕ
own_places = 512

abbrev pub own_catalogue : ℕ
own_catalogue = 4096

-- document 01, "Event list": two events a request are enough, and no trace has more requests than bytes
abbrev pub own_events : ℕ
own_events = 32768

-- no sheet is longer (`sheet_fits`): 12 bytes an event, 413 for the other lines
abbrev pub sheet_most : ℕ
sheet_most = 393629

-- ---- The sheet of a trace

-- document 01, "The run": the method's run over the requests, from a fresh start
abbrev pub run_of : Settings → List Request → Run State
run_of s qs = run (step (policy_in s) (store_of s)) (fresh (store_of s)) qs

-- document 02, ticket 5: its lifts
abbrev pub ran_lifts : Settings → List Request → ℕ
ran_lifts s qs = lifts_of (step (policy_in s) (store_of s)) 0 (fresh (store_of s)) qs

-- document 01, "Tables and the tally" and "Event list": its tally and its events
abbrev pub ran_tally : Settings → List Request → Tally
ran_tally s qs = tally_of (fresh_tally s) (ran_lifts s qs) (run_of s qs)

abbrev pub ran_events : Settings → List Request → List ℕ
ran_events s qs = events qs (run_of s qs).replies

-- document 01, "Order": 3 and 4 by place in the requests; 5 and 6 cannot come (`few_requests`, `few_events`)
abbrev pub of_read : Settings → Read → List ℕ
of_read s (stop r) = refused_line (card_of r).number
of_read s (good qs) = page (ran_tally s qs) (ran_events s qs)

-- document 01, "The sheet": larger settings than the program's own tables give 2
abbrev pub in_own : Settings → Bool
in_own s = leb s.places.0 own_places && leb s.catalogue.0 own_catalogue

-- document 01, "Order": 3 or 1 for the settings, field by field, then 2
abbrev pub of_file : Opened → List ℕ
of_file (shut r) = refused_line (card_of r).number
of_file (opened s rest) = pick (in_own s) (of_read s (read_of (length rest) s.catalogue.0 rest)) (refused_line 2)

-- document 01, "Order": 9 before all others
unfoldable pub sheet_of : List ℕ → List ℕ
sheet_of trace = pick (leb (length trace) input_most) (of_file (settings_of (length trace) trace)) (refused_line 9)
