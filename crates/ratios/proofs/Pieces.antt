-- Worked ratios, by computing the definitions. Assumes nothing.
use mathlib.Core.Path.{◌≡◌, refl, sym, ◌∙◌}
use lib.Dec.{lit≤}
use lib.Ieee.{binary64, round, of_int, of_bits, mul, div}
use Rattle.ratios.specs.Quotient.{double, quotient}
use Rattle.ratios.proofs.Laws.{one_f, double_one, all_hit}

-- ---- as another language's division has them, bit for bit

pub third : quotient 1 3 ≡ of_bits binary64 0x3fd5_5555_5555_5555
unfolding round of_bits
third = refl

pub two_thirds : quotient 2 3 ≡ of_bits binary64 0x3fe5_5555_5555_5555
unfolding round of_bits
two_thirds = refl

-- document 01, "The sheet": the example's 1 hit of 6 requests, and 64 of 336 bytes
pub example_hits : quotient 1 6 ≡ of_bits binary64 0x3fc5_5555_5555_5555
unfolding round of_bits
example_hits = refl

pub example_bytes : quotient 64 336 ≡ of_bits binary64 0x3fc8_6186_1861_8618
unfolding round of_bits
example_bytes = refl

-- ---- what another way would show

-- all 49 hit: 1, but the product with the reciprocal is one step below
pub all_of_49 : quotient 49 49 ≡ double 1
all_of_49 = all_hit 49 (lit≤ tt) ∙ sym double_one

pub reciprocal_of_49 : mul binary64 (double 49) (div binary64 (double 1) (double 49)) ≡ of_bits binary64 0x3fef_ffff_ffff_ffff
unfolding mul div round of_int of_bits
reciprocal_of_49 = refl

-- past 2 to the 53rd a ratio could show 1 where not all hit: one short of 2 to the 54th of as many is a tie, and goes up
tie_goes_up : quotient 18014398509481983 18014398509481984 ≡ one_f
unfolding round
tie_goes_up = refl

pub past_the_limit : quotient 18014398509481983 18014398509481984 ≡ double 1
past_the_limit = tie_goes_up ∙ sym double_one
