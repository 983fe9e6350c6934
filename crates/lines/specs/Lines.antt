-- The lines of the sheet (document 01, "The sheet"; document 02, tickets 2 and 5). Assumes nothing.
use Rattle.std.specs.Prelude.{ℕ, ◌/◌, ◌%◌, List, [], ◌∷◌, ◌++◌, eqb}
use Rattle.amounts.specs.Limits.{pick, catalogue_most}
use Rattle.tables.specs.declared.tally.Tally.{Tally}
use Rattle.lines.specs.Decimal.{decimal}
use Rattle.lines.specs.Words as word
use Rattle.lines.specs.Words.{space, line_feed}

-- document 01, "The sheet": a word, its number, and what ends them
unfoldable pub item : List ℕ → ℕ → ℕ → List ℕ
item w n end = w ++ (space ∷ (decimal n ++ (end ∷ [])))

-- document 01, "The sheet": a refusal prints only `refused N`
abbrev pub refused_line : ℕ → List ℕ
refused_line n = item word.refused n line_feed

-- document 01, "Event list": 1 hit, 2 admit, 3 big, 4 low, 5 evict; document 02, ticket 2: 6 stale
unfoldable pub kind_word : ℕ → List ℕ
kind_word k =
    pick (eqb k 1) word.hit (pick (eqb k 2) word.admit (pick (eqb k 3) word.big (pick (eqb k 4) word.low (pick (eqb k 6) word.stale word.evict))))

-- document 01, "The sheet": event lines give kind and file number, and an event is kind × 32,768 + file
abbrev pub event_line : ℕ → List ℕ
event_line e = item (kind_word (e / catalogue_most)) (e % catalogue_most) line_feed

abbrev pub event_lines : List ℕ → List ℕ
event_lines [] = []
event_lines (e ∷ es) = event_line e ++ event_lines es

-- document 01, "The sheet": the unit comes first
abbrev pub unit_line : Tally → List ℕ
unit_line a = item word.unit a.settings.unit.0 line_feed

-- document 01, "The sheet": then come the tally's counts; document 02, ticket 2: what was dropped ends their line
abbrev pub counts_line : Tally → List ℕ
counts_line a =
    item word.requests a.requests space ++ (item word.hits a.hits space ++ (item word.admitted a.admitted space ++ (item word.passed a.passed space
    ++ (item word.evicted a.evicted space ++ item word.dropped a.dropped line_feed))))

-- document 01, "The sheet": what was asked, and what hits had of it
abbrev pub asked_line : List ℕ → ℕ → List ℕ → ℕ → List ℕ
asked_line w n h m = item w n space ++ item h m line_feed

-- document 01, "The sheet": bytes asked and hit bytes
abbrev pub bytes_line : Tally → List ℕ
bytes_line a = asked_line word.bytes a.bytes_asked.0 word.hitbytes a.hit_bytes.0

-- document 01, "The sheet": cost asked and hit cost
abbrev pub cost_line : Tally → List ℕ
cost_line a = asked_line word.cost a.cost_asked.0 word.hitcost a.hit_cost.0

-- document 01, "The sheet": the last line gives inflation, bytes kept and files kept; document 02, ticket 5: it begins `lifts N L`
abbrev pub last_line : Tally → List ℕ
last_line a =
    item word.lifts a.lifts space
    ++ (item word.inflation a.inflation.0 space ++ (item word.used a.bytes_kept.0 space ++ item word.files a.files_kept line_feed))

-- document 01, "The sheet": the lines in their order
unfoldable pub page : Tally → List ℕ → List ℕ
page a es = unit_line a ++ (event_lines es ++ (counts_line a ++ (bytes_line a ++ (cost_line a ++ last_line a))))
