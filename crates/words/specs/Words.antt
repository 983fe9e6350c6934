-- An answer, settings and a tally as words (docs/BOUNDARY.md). Assumes nothing.
use Rattle.std.specs.Prelude.{ℕ, ◌+◌, ◌*◌, ◌%◌, List, get_or}
use Rattle.amounts.specs.declared.settings.Settings.{Settings}
use Rattle.card.specs.Card.{Card, value_of}
use Rattle.tables.specs.declared.tally.Tally.{Tally}

-- docs/BOUNDARY.md: value * 256 + number. A word has room for values below 2^56. A slice may in principle be longer, though no memory is: the value is taken modulo 2^56, so that the promise is exact for every input
unfoldable pub word_of : ℕ → ℕ → ℕ
word_of value number = value % 72057594037927936 * 256 + number

-- docs/BOUNDARY.md: the number is document 01's, the value what that number returns, else 0
unfoldable pub answer_word : Card → ℕ
answer_word c = word_of (value_of c) c.number

-- docs/BOUNDARY.md: how many words a tally has
abbrev pub tally_words : ℕ
tally_words = 19

-- docs/BOUNDARY.md: how many words settings have
abbrev pub settings_words : ℕ
settings_words = 5

-- docs/BOUNDARY.md: how many doubles the ratios have
abbrev pub ratio_doubles : ℕ
ratio_doubles = 2

-- docs/BOUNDARY.md: settings are five numbers in document 01's order
abbrev pub settings_from : ℕ → ℕ → ℕ → ℕ → ℕ → Settings
settings_from unit policy capacity places catalogue =
    record { unit = record { 0 = unit }; policy = record { 0 = policy }; capacity = record { 0 = capacity }; places = record { 0 = places }; catalogue = record { 0 = catalogue } }

-- docs/BOUNDARY.md: the tally of words in document 01's order, then what was dropped and the lifts (document 02, tickets 2 and 5), which `words` gives back
unfoldable pub tally_in : List ℕ → Tally
tally_in w =
    record {
      settings = settings_from (get_or w 0 0) (get_or w 1 0) (get_or w 2 0) (get_or w 3 0) (get_or w 4 0);
      inflation = record { 0 = get_or w 5 0 };
      bytes_kept = record { 0 = get_or w 6 0 };
      files_kept = get_or w 7 0;
      requests = get_or w 8 0;
      hits = get_or w 9 0;
      admitted = get_or w 10 0;
      passed = get_or w 11 0;
      evicted = get_or w 12 0;
      bytes_asked = record { 0 = get_or w 13 0 };
      hit_bytes = record { 0 = get_or w 14 0 };
      cost_asked = record { 0 = get_or w 15 0 };
      hit_cost = record { 0 = get_or w 16 0 };
      dropped = get_or w 17 0;
      lifts = get_or w 18 0;
    }
