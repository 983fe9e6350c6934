-- Laws of the needed lengths, and the congruence of the eight tables. Assumes nothing.
use mathlib.Core.Path.{◌≡◌, refl}
use mathlib.Core.Bool.{Bool, true, false, ◌&&◌}
use mathlib.Core.List.{List}
use Prim.Native.Nat.{ℕ, ◌≤◌}
use native.Mathlib.Omega.{arith}
use lib.Dec.{leb}
use borrow.Author.Tests.{le-leb, leb-true}
use Rattle.tables.specs.Tables.{Tables, tables, long_enough, is_long, Long}

-- two records of tables are equal where their tables are
pub tables_eq : {a a' b b' c c' d d' e e' f f' g g' h h' : List ℕ} → a ≡ a' → b ≡ b' → c ≡ c' → d ≡ d' → e ≡ e' → f ≡ f' → g ≡ g' → h ≡ h' → tables a b c d e f g h ≡ tables a' b' c' d' e' f' g' h'
tables_eq p q r s t u v w = λ i. tables (p i) (q i) (r i) (s i) (t i) (u i) (v i) (w i)

pub long_last : (p n a b c d e f g h : ℕ) → n ≤ a → p ≤ b → p ≤ c → p ≤ d → p ≤ e → p ≤ f → p ≤ g → leb p h ≡ long_enough p n a b c d e f g h
unfolding long_enough
long_last p n a b c d e f g h i j k l m o q = rw (le-leb n a i, le-leb p b j, le-leb p c k, le-leb p d l, le-leb p e m, le-leb p f o, le-leb p g q)

-- both halves of a test that holds
pub and_left : (a b : Bool) → a && b ≡ true → a ≡ true
and_left true b e = refl
and_left false b e = e

pub and_right : (a b : Bool) → a && b ≡ true → b ≡ true
and_right true b e = e
and_right false b e = let z : ◌≡◌ {A = ℕ} 0 1 = cc in absurd (let h : ⊥ = omega arith in h)

-- a table that is long enough, and the tests behind it
both : (x y : ℕ) (z : Bool) → leb x y && z ≡ true → (x ≤ y) × (z ≡ true)
both x y z e = (leb-true x y (and_left (leb x y) z e), and_right (leb x y) z e)

-- tables that pass the test are long enough
module _ (p n a b c d e f g h : ℕ) where
  abbrev Nums : Type 0
  Nums = (n ≤ a) × (p ≤ b) × (p ≤ c) × (p ≤ d) × (p ≤ e) × (p ≤ f) × (p ≤ g) × (p ≤ h)

  long_nums : long_enough p n a b c d e f g h ≡ true → Nums
  unfolding long_enough
  long_nums q =
      let q1 = both n a _ q in let q2 = both p b _ q1.1 in
      let q3 = both p c _ q2.1 in let q4 = both p d _ q3.1 in
      let q5 = both p e _ q4.1 in let q6 = both p f _ q5.1 in
      let q7 = both p g _ q6.1 in
      (q1.0, q2.0, q3.0, q4.0, q5.0, q6.0, q7.0, leb-true p h q7.1)

pub long_of : (p n : ℕ) (t : Tables) → is_long p n t ≡ true → Long p n t
long_of p n t e =
    let l = long_nums _ _ _ _ _ _ _ _ _ _ e in
    record { place = l.0; file = l.1; size = l.2; cost = l.3; freq = l.4; key = l.5; stamp = l.6; queue = l.7 }
