-- Laws of a rounded quotient: where it is 1 and 0, that it lies between, and that it rises with its part. Assumes nothing.
use mathlib.Core.Path.{◌≡◌, refl, sym, ◌∙◌, subst}
use mathlib.Core.Logic.{◌⊎◌, inl, inr}
use mathlib.Core.Bool.{Bool, true, false, not, ◌&&◌, ◌||◌}
use Prim.Native.Nat.{ℕ, ◌+◌, ◌*◌, ◌≤◌, ◌<◌}
use native.Mathlib.Nat.{mul-one, one-mul, zero-mul, mul-le-mul_right, eq-or-lt_of_le, eq-zero-or-pos, le_of_lt, le_of_eq}
use native.Mathlib.Omega.{arith}
use lib.IntN.{pos, negsuc}
use lib.Dec.{T, ltb, eqb, ltb→lt, lt→ltb, eqb→eq, lit<}
use lib.Ieee.{Float, nan, inf, fin, binary64, up, down, round, of_int, lt, le, eq, is_nan}
use lib.Ieee.Fits.{and_l, and_r, down_pos}
use lib.Ieee.Order.{round_mono}
use lib.Ieee.Scale.{round_same, finite}
use Rattle.ratios.specs.Quotient.{exact_most, double, quotient, Part}

-- ---- 0 and 1, and the values next to them that a quotient of counts up to 2 ^ 53 can have: 2 ^ -53 and 1 - 2 ^ -53
abbrev pub zero_f : Float
zero_f = fin false 0 (pos 0)

abbrev pub one_f : Float
one_f = fin false 1 (pos 0)

abbrev least_f : Float
least_f = fin false 1 (negsuc 52)

abbrev most_f : Float
most_f = fin false 9007199254740991 (negsuc 52)

at_one : round binary64 false 1 1 ≡ one_f
unfolding round
at_one = refl

at_zero : round binary64 false 0 1 ≡ zero_f
unfolding round
at_zero = refl

pub double_zero : double 0 ≡ zero_f
unfolding of_int
double_zero = at_zero

pub double_one : double 1 ≡ one_f
unfolding of_int
double_one = at_one

at_least : round binary64 false 1 9007199254740992 ≡ least_f
unfolding round
at_least = refl

at_most : round binary64 false 9007199254740991 9007199254740992 ≡ most_f
unfolding round
at_most = refl

-- ---- the ends
pub all_hit : (n : ℕ) → 1 ≤ n → quotient n n ≡ one_f
all_hit n h = round_same binary64 false n n 1 1 h (lit< tt) (mul-one n ∙ sym (one-mul n)) ∙ at_one

pub none_hit : (n : ℕ) → 1 ≤ n → quotient 0 n ≡ zero_f
none_hit n h = round_same binary64 false 0 n 0 1 h (lit< tt) (zero-mul 1 ∙ sym (zero-mul n)) ∙ at_zero

-- ---- more hits of as many requests never give a smaller ratio
pub rises : (a b n : ℕ) → 1 ≤ n → a ≤ b → T (le (quotient a n) (quotient b n))
rises a b n N h = round_mono binary64 a n b n N N (mul-le-mul_right n h)

-- ---- between 0 and 1
pub at_least_zero : (a n : ℕ) → 1 ≤ n → T (le zero_f (quotient a n))
at_least_zero a n N = subst (λ (z : Float). T (le z (quotient a n))) (none_hit n N) (rises 0 a n N (omega arith))

pub at_most_one : (a n : ℕ) → 1 ≤ n → a ≤ n → T (le (quotient a n) one_f)
at_most_one a n N h = subst (λ (z : Float). T (le (quotient a n) z)) (all_hit n N) (rises a n n N h)

-- ---- neither a NaN nor an infinity
between_finite : (x : Float) → T (le zero_f x) → T (le x one_f) → T (finite x)
unfolding le
between_finite nan h k = absurd h
between_finite (inf true) h k = absurd h
between_finite (inf false) h k = absurd k
between_finite (fin s m e) h k = tt

finite_no_nan : (x : Float) → T (finite x) → T (not (is_nan x))
unfolding is_nan
finite_no_nan nan t = absurd t
finite_no_nan (inf s) t = absurd t
finite_no_nan (fin s m e) t = tt

pub is_finite : (a n : ℕ) → 1 ≤ n → a ≤ n → T (finite (quotient a n))
is_finite a n N h = between_finite (quotient a n) (at_least_zero a n N) (at_most_one a n N h)

pub no_nan : (a n : ℕ) → 1 ≤ n → a ≤ n → T (not (is_nan (quotient a n)))
no_nan a n N h = finite_no_nan (quotient a n) (is_finite a n N h)

-- ---- the language's comparisons
or_split : (a b : Bool) → T (a || b) → T a ⊎ T b
or_split true b t = inl tt
or_split false b t = inr t

lt_or_eq : (a b : ℕ) → T (ltb a b || (eqb a b && true)) → a ≤ b
lt_or_eq a b t = elim (or_split (ltb a b) (eqb a b && true) t) [ inl u ↦ le_of_lt (ltb→lt a b u) | inr u ↦ le_of_eq (eqb→eq a b (and_l (eqb a b) true u)) ]

-- below 1, and above 0
under_one : (x : Float) → T (le x most_f) → T (lt x one_f)
unfolding le lt
under_one nan h = absurd h
under_one (inf true) h = tt
under_one (inf false) h = absurd h
under_one (fin true m e) h = lt→ltb 0 (m * up e * 1 + 1 * 1 * down e) (omega (arith, down_pos e))
under_one (fin false m e) h =
    let k : m * up e * 9007199254740992 ≤ 9007199254740991 * 1 * down e = lt_or_eq (m * up e * 9007199254740992) (9007199254740991 * 1 * down e) h in
    lt→ltb (m * up e * 1) (1 * 1 * down e) (omega (arith, k, down_pos e))

over_zero : (x : Float) → T (le least_f x) → T (lt zero_f x)
unfolding le lt
over_zero nan h = absurd h
over_zero (inf true) h = absurd h
over_zero (inf false) h = tt
over_zero (fin true m e) h =
    let k : 1 * 1 * down e ≡ 0 = eqb→eq (1 * 1 * down e) 0 (and_r (eqb (1 * 1 * down e) (m * up e * 9007199254740992)) (eqb (1 * 1 * down e) 0) h) in
    let z : ⊥ = omega (arith, k, down_pos e) in absurd z
over_zero (fin false m e) h =
    let k : 1 * 1 * down e ≤ m * up e * 9007199254740992 = lt_or_eq (1 * 1 * down e) (m * up e * 9007199254740992) h in
    lt→ltb (0 * 1 * down e) (m * up e * 1) (omega (arith, k, down_pos e))

-- a value that is below another does not equal it
apart : (x y : Float) → T (lt x y) → T (eq x y) → ⊥
unfolding lt eq
apart nan y h k = absurd h
apart (inf s) nan h k = absurd h
apart (inf true) (inf true) h k = absurd h
apart (inf true) (inf false) h k = absurd k
apart (inf false) (inf t) h k = absurd h
apart (inf s) (fin t n d) h k = absurd k
apart (fin s m e) nan h k = absurd h
apart (fin s m e) (inf t) h k = absurd k
apart (fin false m e) (fin false n d) h k =
    let a : ℕ = m * up e * down d in
    let b : ℕ = n * up d * down e in
    let p : a < b = ltb→lt a b h in
    let q : a ≡ b = eqb→eq a b (and_l (eqb a b) true k) in
    omega (arith, p, q)
apart (fin false m e) (fin true n d) h k = absurd h
apart (fin true m e) (fin false n d) h k =
    let a : ℕ = m * up e * down d in
    let b : ℕ = n * up d * down e in
    let p : 0 < a + b = ltb→lt 0 (a + b) h in
    let q : a ≡ b = eqb→eq a b (and_l (eqb a b) (eqb a 0) k) in
    let r : a ≡ 0 = eqb→eq a 0 (and_r (eqb a b) (eqb a 0) k) in
    omega (arith, p, q, r)
apart (fin true m e) (fin true n d) h k =
    let a : ℕ = m * up e * down d in
    let b : ℕ = n * up d * down e in
    let p : b < a = ltb→lt b a h in
    let q : a ≡ b = eqb→eq a b (and_l (eqb a b) true k) in
    omega (arith, p, q)

apart_zero : (x : Float) → T (lt zero_f x) → T (eq x zero_f) → ⊥
unfolding lt eq
apart_zero nan h k = absurd h
apart_zero (inf s) h k = absurd k
apart_zero (fin true m e) h k = absurd h
apart_zero (fin false m e) h k =
    let p : 0 * 1 * down e < m * up e * 1 = ltb→lt (0 * 1 * down e) (m * up e * 1) h in
    let q : m * up e * 1 ≡ 0 * 1 * down e = eqb→eq (m * up e * 1) (0 * 1 * down e) (and_l (eqb (m * up e * 1) (0 * 1 * down e)) true k) in
    omega (arith, p, q)

-- ---- short of all hit it is below 1, and with one hit it is above 0
pub below_one : (a n : ℕ) → a < n → n ≤ exact_most → T (lt (quotient a n) one_f)
below_one a n h k =
    under_one (quotient a n) (subst (λ (z : Float). T (le (quotient a n) z)) at_most
    (round_mono binary64 a n 9007199254740991 9007199254740992 (omega arith) (lit< tt) (omega arith)))

pub above_zero : (a n : ℕ) → 1 ≤ a → 1 ≤ n → n ≤ exact_most → T (lt zero_f (quotient a n))
above_zero a n h N k =
    over_zero (quotient a n) (subst (λ (z : Float). T (le z (quotient a n))) at_least
    (round_mono binary64 1 9007199254740992 a n (lit< tt) N (omega arith)))

-- so it equals 1 only where all hit, and 0 only where none did
pub only_all : (a n : ℕ) → Part a n → T (eq (quotient a n) one_f) → a ≡ n
only_all a n p t = elim (eq-or-lt_of_le p.within) [ inl e ↦ e | inr l ↦ absurd (apart (quotient a n) one_f (below_one a n l p.exact) t) ]

pub only_none : (a n : ℕ) → Part a n → T (eq (quotient a n) zero_f) → a ≡ 0
only_none a n p t = elim (eq-zero-or-pos a) [ inl e ↦ e | inr l ↦ absurd (apart_zero (quotient a n) (above_zero a n l p.some p.exact) t) ]
