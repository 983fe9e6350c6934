-- One division of two counts that are doubles exactly is the counts' own fraction, rounded once. Assumes nothing.
use mathlib.Core.Path.{◌≡◌, refl, sym, ap, ◌∙◌}
use mathlib.Core.Bool.{true, false, not, cond, true≢false}
use Prim.Native.Nat.{ℕ, ◌*◌, ◌^◌, ◌≤◌, ◌<◌}
use native.Mathlib.Nat.{mul-one, mul_comm, mul-pos, mul-mul-mul_comm}
use native.Mathlib.Omega.{arith}
use lib.IntN.{pos}
use lib.Dec.{T, eqb, eqb→eq, ltb→lt, le→leb, not_T, lit<}
use lib.Ieee.{Float, nan, inf, fin, Format, binary64, up, down, round, div, of_int, in_float}
use lib.Ieee.Fits.{up_pos, down_pos}
use lib.Ieee.Bits.{cond_no}
use lib.Ieee.Exact.{HasValue}
use lib.Ieee.Scale.{round_same}
use lib.Ieee.Positive.{positive, positive_of_value, value_pos}
use lib.Ieee.Back.{round_whole}
use Rattle.ratios.specs.Quotient.{exact_most, double, quotient, Part, Divided}

-- ---- a quotient by any fractions that the two equal, x / p being a / c and y / q being b / d
crossed : (x p a c y q b d : ℕ) → x * c ≡ a * p → y * d ≡ b * q → x * q * (b * c) ≡ a * d * (y * p)
crossed x p a c y q b d e f =
    ap (λ (z : ℕ). x * q * z) (mul_comm b c)
    ∙ mul-mul-mul_comm x q c b
    ∙ ap (λ (z : ℕ). z * (q * b)) e
    ∙ ap (λ (z : ℕ). a * p * z) (mul_comm q b ∙ sym f ∙ mul_comm y d)
    ∙ mul-mul-mul_comm a p d y
    ∙ ap (λ (z : ℕ). a * d * z) (mul_comm p y)

not_zero : (n : ℕ) → 0 < n → T (not (eqb n 0))
not_zero n h = not_T (eqb n 0) (λ t. let e : n ≡ 0 = eqb→eq n 0 t in let z : ⊥ = omega arith in z)

pub div_at : (f : Format) (x y : Float) (a c b d : ℕ) → T (positive y) → 0 < c → 0 < d → HasValue x false a c → HasValue y false b d → div f x y ≡ round f false (a * d) (b * c)
unfolding div
div_at f nan y a c b d q C D h k = absurd h
div_at f (inf s) y a c b d q C D h k = absurd h
div_at f (fin true m e) y a c b d q C D h k = absurd (true≢false h.0)
div_at f (fin false m e) nan a c b d q C D h k = absurd q
div_at f (fin false m e) (inf t) a c b d q C D h k = absurd q
div_at f (fin false m e) (fin true n g) a c b d q C D h k = absurd q
div_at f (fin false m e) (fin false n g) a c b d q C D h k =
    let N : 0 < n = ltb→lt 0 n q in
    cond_no (eqb n 0) (cond (eqb m 0) nan (inf false)) (round f false (m * up e * down g) (n * up g * down e)) (not_zero n N)
    ∙ round_same f false (m * up e * down g) (n * up g * down e) (a * d) (b * c) (mul-pos (mul-pos N (up_pos g)) (down_pos e)) (mul-pos (value_pos (fin false n g) b d q D k) C)
    (crossed (m * up e) (down e) a c (n * up g) (down g) b d h.1 k.1)

-- ---- a count up to 2 ^ 53 as a double
pub lossless : (n : ℕ) → n ≤ exact_most → T (in_float binary64 (pos n))
unfolding in_float
lossless n h = le→leb n (2 ^ 53) h

pub counted : (n : ℕ) → n ≤ exact_most → HasValue (double n) false n 1
unfolding of_int
counted n h = round_whole binary64 false n h

pub divided : (part whole : ℕ) → Part part whole → div binary64 (double part) (double whole) ≡ quotient part whole
divided part whole p =
    let k : part ≤ exact_most = omega (arith, p.within, p.exact) in
    let w : HasValue (double whole) false whole 1 = counted whole p.exact in
    div_at binary64 (double part) (double whole) part 1 whole 1
    (positive_of_value (double whole) whole 1 w p.some) (lit< tt) (lit< tt) (counted part k) w
    ∙ ap (λ (z : ℕ). round binary64 false z (whole * 1)) (mul-one part)
    ∙ ap (λ (z : ℕ). round binary64 false part z) (mul-one whole)

pub divided_by : (part whole : ℕ) → Part part whole → Divided part whole (quotient part whole)
divided_by part whole p =
    record { part_exact = counted part (omega (arith, p.within, p.exact)); whole_exact = counted whole p.exact; divided = sym (divided part whole p); rounded = refl }
