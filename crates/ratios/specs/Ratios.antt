-- Both ratios of a tally, or why there are none (document 02, tickets 3 and 5). Assumes nothing.
use Rattle.std.specs.Prelude.{◌≡◌, List, [], ◌∷◌, ◌≤◌, ◌<◌, Float, Result, Ok, Err}
use Rattle.card.specs.Card.{Card, done, refused, card_of}
use Rattle.card.specs.declared.Refusal.{Refusal}
use Rattle.tables.specs.Sound.{Counted}
use Rattle.tables.specs.declared.tally.Tally.{Tally}
use Rattle.ratios.specs.Quotient.{exact_most, quotient, Part}
use Rattle.ratios.specs.declared.answer.Ratios.{Ratios}

-- document 02, ticket 3: hits by requests and hit bytes by bytes asked
abbrev pub ratios_of : Tally → Ratios
ratios_of a = record { hits = quotient a.hits a.requests; bytes = quotient a.hit_bytes.0 a.bytes_asked.0 }

-- document 02, ticket 3: each a part of its whole, so that both can be divided
pub record Rateable (a : Tally) : Type 0 where
  pub hits : Part a.hits a.requests
  pub bytes : Part a.hit_bytes.0 a.bytes_asked.0

-- document 01, "The forms we use": what a call for ratios gives back, the red card and the doubles that come with it
pub record RatioCard : Type 0 where
  pub card : Card
  pub doubles : List Float

-- document 02, ticket 3: the two numbers in their order
abbrev pub doubles_of : Ratios → List Float
doubles_of x = x.hits ∷ x.bytes ∷ []

-- document 02, ticket 3: the record of two, done
abbrev pub giving : Ratios → RatioCard
giving x = record { card = done []; doubles = doubles_of x }

-- document 02, ticket 3: a refusal, with no double
abbrev pub refusing : Card → RatioCard
refusing c = record { card = c; doubles = [] }

-- document 01, "The forms we use": the number and values of each case of an answer
abbrev pub ratio_card : Result Ratios Refusal → RatioCard
ratio_card (Ok x) = giving x
ratio_card (Err r) = refusing (card_of r)

-- document 02, ticket 3: 11 when there are no requests, before any other test; then 7 when the tally breaks soundness on the sum to requests, bytes asked or hit bytes
-- document 02, ticket 5: then 12 with bytes asked above 9,007,199,254,740,992; else the record
pub record Rates (a : Tally) (x : RatioCard) : Type 0 where
  pub none : a.requests ≡ 0 → x ≡ refusing (refused 11 [])
  pub unsound : 1 ≤ a.requests → (Counted a → ⊥) → x ≡ refusing (refused 7 [])
  pub inexact : 1 ≤ a.requests → Counted a → exact_most < a.bytes_asked.0 → x ≡ refusing (refused 12 [])
  pub rated : 1 ≤ a.requests → Counted a → a.bytes_asked.0 ≤ exact_most → x ≡ giving (ratios_of a)
