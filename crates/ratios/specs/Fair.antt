-- What a fitter relies on in a ratio that is given (document 02, ticket 3). Assumes nothing.
use Rattle.std.specs.Prelude.{◌≡◌, not, ℕ, ◌+◌, ◌*◌, ◌≤◌, T, Float}
use Rattle.std.specs.Float.Ieee.{le, eq, is_nan}
use Rattle.std.specs.Float.Ieee.Positive.{num, den}
use Rattle.tables.specs.declared.tally.Tally.{Tally}
use Rattle.ratios.specs.Quotient.{double, Divided}
use Rattle.ratios.specs.declared.answer.Ratios.{Ratios}

-- document 02, ticket 3, "rounded once": n / d and part / whole are at most 1 / q apart, multiplied out
pub record Close (q n d part whole : ℕ) : Type 0 where
  pub over : n * whole * q ≤ part * d * q + whole * d
  pub under : part * d * q ≤ n * whole * q + whole * d

-- document 02, ticket 3, "rounded once": 2 to the 54th, since half a step between doubles just below 1 is one part of so many
abbrev pub nearness : ℕ
nearness = 18014398509481984

-- document 02, ticket 3: never a NaN, always between 0 and 1; 1 when both counts are equal, and only then; 0 when nothing hit, and only then; within 2 to the -54th of the fraction itself
-- `le` and `eq` are the language's <= and == of doubles, and r is the number num r / den r
pub record Fair (part whole : ℕ) (r : Float) : Type 0 where
  pub number : T (not (is_nan r))
  pub least : T (le (double 0) r)
  pub most : T (le r (double 1))
  pub all : part ≡ whole → r ≡ double 1
  pub only_all : T (eq r (double 1)) → part ≡ whole
  pub none : part ≡ 0 → r ≡ double 0
  pub only_none : T (eq r (double 0)) → part ≡ 0
  pub near : Close nearness (num r) (den r) part whole

-- document 02, ticket 3: both ratios x of a tally
pub record Relied (a : Tally) (x : Ratios) : Type 0 where
  pub hits : Divided a.hits a.requests x.hits × Fair a.hits a.requests x.hits
  pub bytes : Divided a.hit_bytes.0 a.bytes_asked.0 x.bytes × Fair a.hit_bytes.0 a.bytes_asked.0 x.bytes

-- document 02, ticket 3: more hits of as many requests, or more hit bytes of as many asked, never show a smaller ratio
pub record Rising (a b : Tally) (x y : Ratios) : Type 0 where
  pub hits : a.requests ≡ b.requests → a.hits ≤ b.hits → T (le x.hits y.hits)
  pub bytes : a.bytes_asked.0 ≡ b.bytes_asked.0 → a.hit_bytes.0 ≤ b.hit_bytes.0 → T (le x.bytes y.bytes)
