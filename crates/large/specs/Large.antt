-- Numbers past 64 bits, in two words (document 02, ticket 5). Assumes nothing.
use Rattle.std.specs.Prelude.{◌≡◌, ℕ, ◌+◌, ◌*◌, ◌/◌, ◌%◌, ◌<◌}
use Rattle.std.proofs.Common.{arith}
use Rattle.amounts.specs.Limits.{lift}
use Rattle.large.specs.declared.Large.TheInside.{Inside}

-- document 02, ticket 5: what the two words stand for, as whole inflation is lifts × 2 to the 60th + L
abbrev pub value_of : Inside → ℕ
value_of w = w.high * lift + w.low

-- document 02, ticket 5: less than one lift stands beside the lifts, so that a number has one such form
abbrev pub Normal : Inside → Type 0
Normal w = w.low < lift

-- the form of n
abbrev pub words_of : ℕ → Inside
words_of n = record { high = n / lift; low = n % lift }

pub words_back : (w : Inside) → Normal w → words_of (value_of w) ≡ w
words_back w h =
    let high : value_of w / lift ≡ w.high = omega arith in
    let low : value_of w % lift ≡ w.low = omega arith in
    λ i. record { high = high i; low = low i }
