-- The words of the sheet, as ASCII bytes (document 01, "The sheet"). Assumes nothing.
use Rattle.std.specs.Prelude.{ℕ, List, [], ◌∷◌}
use Prim.Native.Char.{code}
use Prim.Native.String.{String, [] as []ˢ, ◌∷◌ as ◌∷ˢ◌}

-- the codes of the characters of a text
abbrev pub ascii : String → List ℕ
ascii []ˢ = []
ascii (c ∷ˢ s) = code c ∷ ascii s

-- document 01, "The sheet": what stands between a word and its number, and between two of them in a line
abbrev pub space : ℕ
space = code " "

-- document 01, "The sheet": each line ends in one line feed
abbrev pub line_feed : ℕ
line_feed = code "\n"

-- document 01, "The sheet": the unit comes first
abbrev pub unit : List ℕ
unit = ascii "unit"

-- document 01, "The sheet": the kinds of events
abbrev pub hit : List ℕ
hit = ascii "hit"

abbrev pub admit : List ℕ
admit = ascii "admit"

abbrev pub big : List ℕ
big = ascii "big"

abbrev pub low : List ℕ
low = ascii "low"

abbrev pub evict : List ℕ
evict = ascii "evict"

-- document 02, ticket 2: the kind of an old copy that was dropped
abbrev pub stale : List ℕ
stale = ascii "stale"

-- document 01, "The sheet": the tally's counts
abbrev pub requests : List ℕ
requests = ascii "requests"

abbrev pub hits : List ℕ
hits = ascii "hits"

abbrev pub admitted : List ℕ
admitted = ascii "admitted"

abbrev pub passed : List ℕ
passed = ascii "passed"

abbrev pub evicted : List ℕ
evicted = ascii "evicted"

-- document 02, ticket 2: the tally's count of old copies
abbrev pub dropped : List ℕ
dropped = ascii "dropped"

-- document 01, "The sheet": bytes asked and hit bytes
abbrev pub bytes : List ℕ
bytes = ascii "bytes"

abbrev pub hitbytes : List ℕ
hitbytes = ascii "hitbytes"

-- document 01, "The sheet": cost asked and hit cost
abbrev pub cost : List ℕ
cost = ascii "cost"

abbrev pub hitcost : List ℕ
hitcost = ascii "hitcost"

-- document 02, ticket 5: the tally's lifts
abbrev pub lifts : List ℕ
lifts = ascii "lifts"

-- document 01, "The sheet": inflation, bytes kept and files kept
abbrev pub inflation : List ℕ
inflation = ascii "L"

abbrev pub used : List ℕ
used = ascii "used"

abbrev pub files : List ℕ
files = ascii "files"

-- document 01, "The sheet": a refusal prints only `refused N`
abbrev pub refused : List ℕ
refused = ascii "refused"
