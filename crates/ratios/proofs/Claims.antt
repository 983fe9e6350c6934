-- What a fitter relies on, of every call that gives ratios. Assumes nothing.
use mathlib.Core.Path.{◌≡◌, sym, ap, ◌∙◌, subst}
use mathlib.Core.List.{[]}
use Prim.Native.Nat.{ℕ, ◌≤◌}
use native.Mathlib.Omega.{arith}
use lib.Dec.{T, lit≤}
use lib.ListN.{get_or}
use lib.Ieee.{Float, le, eq}
use Rattle.card.specs.Card.{refused}
use Rattle.tables.specs.declared.tally.Tally.{Tally}
use Rattle.ratios.specs.Quotient.{double, quotient, Part}
use Rattle.ratios.specs.Ratios.{ratios_of, Rateable, RatioCard, giving, refusing, Rates}
use Rattle.ratios.specs.Fair.{Fair, Relied, Rising}
use Rattle.ratios.specs.declared.answer.Ratios.{Ratios}
use Rattle.ratios.proofs.Dividing.{divided_by}
use Rattle.ratios.proofs.Laws.{double_zero, double_one, all_hit, none_hit, rises, at_least_zero, at_most_one, no_nan, only_all, only_none}
use Rattle.ratios.proofs.Nearness.{near}
use Rattle.ratios.proofs.Rating.{Case, empty, broken, past, whole, case_of, rateable}

-- ---- one quotient

pub fair : (a n : ℕ) → Part a n → Fair a n (quotient a n)
fair a n p =
    record {
      number = no_nan a n p.some p.within;
      least = subst (λ (z : Float). T (le z (quotient a n))) (sym double_zero) (at_least_zero a n p.some);
      most = subst (λ (z : Float). T (le (quotient a n) z)) (sym double_one) (at_most_one a n p.some p.within);
      all = λ e. ap (λ (z : ℕ). quotient z n) e ∙ all_hit n p.some ∙ sym double_one;
      only_all = λ t. only_all a n p (subst (λ (z : Float). T (eq (quotient a n) z)) double_one t);
      none = λ e. ap (λ (z : ℕ). quotient z n) e ∙ none_hit n p.some ∙ sym double_zero;
      only_none = λ t. only_none a n p (subst (λ (z : Float). T (eq (quotient a n) z)) double_zero t);
      near = near a n p;
    }

-- ---- a call that gives ratios

-- the tally was fit for them, and they are its own
record Given (a : Tally) (x : Ratios) : Type 0 where
  some : 1 ≤ a.requests
  rateable : Rateable a
  is : ratios_of a ≡ x

not_given : (n : ℕ) (x : Ratios) → 1 ≤ n → giving x ≡ refusing (refused n []) → ⊥
not_given n x h e = let z : 0 ≡ n = ap (λ (c : RatioCard). c.card.number) e in omega arith

given : (a : Tally) (x : Ratios) → Rates a (giving x) → Given a x
given a x p = go (case_of a)
  where
    same_ratios : (y z : Ratios) → giving y ≡ giving z → y ≡ z
    same_ratios y z e = λ i. record { hits = get_or (e i).doubles 0 (double 0); bytes = get_or (e i).doubles 1 (double 0) }

    go : Case a → Given a x
    go (empty e) = absurd (not_given 11 x (lit≤ tt) (p.none e))
    go (broken n nc) = absurd (not_given 7 x (lit≤ tt) (p.unsound n nc))
    go (past n h k) = absurd (not_given 12 x (lit≤ tt) (p.inexact n h k))
    go (whole n h k) = record { some = n; rateable = rateable a n h k; is = same_ratios (ratios_of a) x (sym (p.rated n h k)) }

-- document 02, ticket 3: each is one division, rounded once, and fair
pub relied : (a : Tally) (x : Ratios) → Rates a (giving x) → Relied a x
relied a x p =
    let g = given a x p in
    subst (Relied a) g.is
    (record {
      hits = (divided_by a.hits a.requests g.rateable.hits, fair a.hits a.requests g.rateable.hits);
      bytes = (divided_by _ _ g.rateable.bytes, fair _ _ g.rateable.bytes);
    })

-- document 02, ticket 3: more hits never show a smaller ratio
pub rising : (a b : Tally) (x y : Ratios) → Rates a (giving x) → Rates b (giving y) → Rising a b x y
rising a b x y p q =
    let g = given a x p in
    let k = given b y q in
    subst (λ (z : Ratios). Rising a b z y) g.is
    (subst (λ (z : Ratios). Rising a b (ratios_of a) z) k.is
    (record {
      hits = λ e h. subst (λ (n : ℕ). T (le (quotient a.hits a.requests) (quotient b.hits n))) e (rises a.hits b.hits a.requests g.some h);
      bytes = λ e h.
          subst (λ (n : ℕ). T (le (quotient a.hit_bytes.0 a.bytes_asked.0) (quotient b.hit_bytes.0 n))) e
          (rises a.hit_bytes.0 b.hit_bytes.0 a.bytes_asked.0 g.rateable.bytes.some h);
    }))
