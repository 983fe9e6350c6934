-- The digits of a number: the bound never counts, and the loops that count and store them. Assumes nothing.
use Prim.Native.Nat.{ℕ, zero, suc, ◌+◌, ◌*◌, ◌/◌, ◌%◌, ◌^◌, ◌-◌, ◌≤◌, ◌<◌}
use mathlib.Core.Path.{◌≡◌, refl, ap, sym, ◌∙◌}
use mathlib.Core.List.{List, [], ◌∷◌, ◌++◌}
use mathlib.Core.Bool.{Bool, true, false}
use mathlib.Core.Logic.{◌⊎◌, inl, inr}
use native.Mathlib.Omega.{arith}
use native.Mathlib.Nat.{pow-suc}
use borrow.Author.Tests.{lt-ltb, le-ltb}
use lib.ListN.{length, set, length-set, length-append}
use lib.Seq.{sets, set_comm}
use lib.Dec.{ltb}
use Rattle.amounts.specs.Limits.{pick, word}
use Rattle.amounts.proofs.Tests.{below}
use Rattle.trace.specs.Stores.{Laid}
use Rattle.trace.proofs.Laying.{laid_then}
use Rattle.lines.specs.Decimal.{digits, decimal}

module _ (k n : ℕ) where
  last : n < 10 → digits (suc k) n ≡ (48 + n) ∷ []
  last h = rw (lt-ltb n 10 h)

  more : 10 ≤ n → digits (suc k) n ≡ digits k (n / 10) ++ ((48 + n % 10) ∷ [])
  more h = rw (le-ltb n 10 h)

  some : 1 ≤ length (digits (suc k) n)
  some = go (ltb n 10)
    where
      go : (t : Bool) → 1 ≤ length (pick t ((48 + n) ∷ []) (digits k (n / 10) ++ ((48 + n % 10) ∷ [])))
      go true = omega arith
      go false = omega (arith, length-append (digits k (n / 10)) ((48 + n % 10) ∷ []))

-- no more than the bound
digits_short : (k n : ℕ) → length (digits k n) ≤ k
digits_short zero n = omega arith
digits_short (suc k) n = go (ltb n 10) (digits_short k (n / 10))
  where
    go : (t : Bool) → length (digits k (n / 10)) ≤ k → length (pick t ((48 + n) ∷ []) (digits k (n / 10) ++ ((48 + n % 10) ∷ []))) ≤ suc k
    go true h = omega arith
    go false h = omega (arith, length-append (digits k (n / 10)) ((48 + n % 10) ∷ []))

pub decimal_short : (n : ℕ) → length (decimal n) ≤ 20
unfolding decimal
decimal_short n = digits_short 20 n

-- one digit more is never used
enough : (k n : ℕ) → n < 10 ^ suc k → digits (suc k) n ≡ digits (suc (suc k)) n
enough zero n h = last zero n h ∙ sym (last (suc zero) n h)
enough (suc k) n h = go (below n 10) (enough k (n / 10))
  where
    go : (n < 10) ⊎ (10 ≤ n) → (n / 10 < 10 ^ suc k → digits (suc k) (n / 10) ≡ digits (suc (suc k)) (n / 10)) → digits (suc (suc k)) n ≡ digits (suc (suc (suc k))) n
    go (inl l) ih = last (suc k) n l ∙ sym (last (suc (suc k)) n l)
    go (inr l) ih =
        let h' : n < 10 ^ suc k * 10 = rw pow-suc at h in
        more (suc k) n l ∙ ap (λ (ds : List ℕ). ds ++ ((48 + n % 10) ∷ [])) (ih (omega arith)) ∙ sym (more (suc (suc k)) n l)

-- document 01, "The sheet": the digits of a 64-bit number, without the bound
pub decimal_last : (n : ℕ) → n < 10 → decimal n ≡ (48 + n) ∷ []
unfolding decimal
decimal_last n h = last 19 n h

pub decimal_more : (n : ℕ) → 10 ≤ n → n < 10 ^ 20 → decimal n ≡ decimal (n / 10) ++ ((48 + n % 10) ∷ [])
unfolding decimal
decimal_more n h l = more 19 n h ∙ ap (λ (ds : List ℕ). ds ++ ((48 + n % 10) ∷ [])) (enough 18 (n / 10) (omega arith))

-- the loop that counts the digits
pub record Counting (n left count : ℕ) : Type 0 where
  pub small : left < 10 ^ 20
  pub same : count + length (decimal left) ≡ 1 + length (decimal n)

-- the loop that stores them, the last one first: those of what is left come before place i + 1
pub record Storing (n at : ℕ) (out₀ : List ℕ) (left i : ℕ) (out : List ℕ) : Type 0 where
  pub small : left < 10 ^ 20
  pub same : sets out at (decimal left) ≡ sets out₀ at (decimal n)
  pub ends : i + 1 ≡ at + length (decimal left)
  pub few : i < at + length (decimal n)
  pub long : length out ≡ length out₀

pub some_decimal : (n : ℕ) → 1 ≤ length (decimal n)
unfolding decimal
some_decimal n = some 19 n

pub longer_decimal : (n : ℕ) → 10 ≤ n → n < 10 ^ 20 → length (decimal n) ≡ length (decimal (n / 10)) + 1
longer_decimal n h l = ap length (decimal_more n h l) ∙ length-append (decimal (n / 10)) ((48 + n % 10) ∷ []) ∙ omega arith

module _ (n left count : ℕ) (c : Counting n left count) where
  pub counting_few : count ≤ 20
  counting_few = omega (arith, c.same, decimal_short n, some_decimal left)

  pub counting_more : 9 < left → Counting n (left / 10) (count + 1)
  counting_more h = record { small = omega (arith, c.small); same = omega (arith, c.same, longer_decimal left h c.small) }

  pub counting_end : left ≤ 9 → count ≡ length (decimal n)
  counting_end h = omega (arith, c.same, ap length (decimal_last left (omega arith)))

-- a store behind others may come first
set_behind : (l : List ℕ) (i : ℕ) (vs : List ℕ) (j v : ℕ) → i + length vs ≤ j → set (sets l i vs) j v ≡ sets (set l j v) i vs
set_behind l i [] j v h = refl
set_behind l i (w ∷ vs) j v h = set_behind (set l i w) (suc i) vs j v (omega arith) ∙ ap (λ (x : List ℕ). sets x (suc i) vs) (set_comm l i j w v (λ e. omega arith))

sets_last : (l : List ℕ) (i : ℕ) (vs : List ℕ) (v : ℕ) → sets l i (vs ++ (v ∷ [])) ≡ sets (set l (i + length vs) v) i vs
sets_last l i vs v =
    sym (laid_then vs (v ∷ []) i l _ _ (record { placed = refl; ends = refl }) _ _ (record { placed = refl; ends = refl })).placed ∙ set_behind l i vs (i + length vs) v (omega arith)

pub storing_first : (n at i : ℕ) (out : List ℕ) → n < word → i + 1 ≡ at + length (decimal n) → Storing n at out n i out
storing_first n at i out h e = record { small = omega arith; same = refl; ends = e; few = omega arith; long = refl }

module _ (n at : ℕ) (out₀ : List ℕ) (left i : ℕ) (out : List ℕ) (p : Storing n at out₀ left i out) where
  pub storing_on : 9 < left → 1 ≤ i
  storing_on h = omega (arith, p.ends, longer_decimal left h p.small, some_decimal (left / 10))

  pub storing_more : 9 < left → Storing n at out₀ (left / 10) (i - 1) (set out i (48 + left % 10))
  storing_more h =
      let e : i ≡ at + length (decimal (left / 10)) = omega (arith, p.ends, longer_decimal left h p.small) in
      record {
        small = omega (arith, p.small);
        same = rw e (sym (sets_last out at (decimal (left / 10)) (48 + left % 10)) ∙ ap (sets out at) (sym (decimal_more left h p.small)) ∙ p.same);
        ends = omega (arith, e, some_decimal (left / 10));
        few = omega (arith, p.few);
        long = length-set out i (48 + left % 10) ∙ p.long;
      }

  pub storing_end : left ≤ 9 → (end : ℕ) → end ≡ at + length (decimal n) → Laid (decimal n) at out₀ (set out i (48 + left)) end
  storing_end h end q =
      let d : decimal left ≡ (48 + left) ∷ [] = decimal_last left (omega arith) in
      let e : i ≡ at = omega (arith, p.ends, ap length d) in
      record { placed = rw e (ap (sets out at) (sym d) ∙ p.same); ends = q }
