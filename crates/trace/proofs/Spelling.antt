-- The bytes of a number: it is read back from them, no other bytes are read as that number, and a loop writes them group by group. Assumes nothing.
use Prim.Native.Nat.{ℕ, zero, suc, ◌+◌, ◌*◌, ◌/◌, ◌%◌, ◌^◌, ◌≤◌, ◌<◌}
use mathlib.Core.Path.{◌≡◌, refl, ap, subst, ◌∙◌}
use mathlib.Core.List.{List, [], ◌∷◌, ◌++◌}
use mathlib.Core.Bool.{Bool, true, false}
use native.Mathlib.Omega.{arith}
use native.Mathlib.Nat.{pow-suc, pow-le-pow_right}
use borrow.Author.Tests.{lt-ltb, le-ltb, ne_eqb, ltb-true, ltb-false, eqb-false}
use lib.ListN.{length, set}
use lib.Dec.{ltb, eqb, lit≤}
use Rattle.amounts.specs.Limits.{pick}
use Rattle.trace.specs.Number.{spelt, encode, number_most, Num, num, bad, before, closing, groups, decode, AreBytes}
use Rattle.trace.specs.Stores.{Laid}
use Rattle.trace.proofs.Laying.{Left, left_first, left_one, left_end}

-- what is written is read

closed : (first : Bool) (n : ℕ) (rest : List ℕ) → (first ≡ false → 0 < n) → n < 128 → closing first n rest ≡ num n rest
closed true n rest h l = ap (λ (v : ℕ). num v rest) (omega arith)
closed false n rest h l = rw (ne_eqb n 0 (λ e. omega (arith, h refl))) (ap (λ (v : ℕ). num v rest) (omega arith))

one_group : (k n : ℕ) (first : Bool) (rest : List ℕ) → (first ≡ false → 0 < n) → n < 128 → groups (suc k) first (spelt (suc k) n ++ rest) ≡ num n rest
one_group k n first rest h l = rw (lt-ltb n 128 l, lt-ltb n 128 l) (closed first n rest h l)

read_back : (k n : ℕ) (first : Bool) (rest : List ℕ) → (first ≡ false → 0 < n) → n < 128 ^ suc k → groups (suc k) first (spelt (suc k) n ++ rest) ≡ num n rest
read_back zero n first rest h l = one_group zero n first rest h l
read_back (suc k) n first rest h l = go (ltb n 128) refl (read_back k (n / 128) false rest)
  where
    go : (t : Bool) → ltb n 128 ≡ t → ((false ≡ false → 0 < n / 128) → n / 128 < 128 ^ suc k → groups (suc k) false (spelt (suc k) (n / 128) ++ rest) ≡ num (n / 128) rest)
        → groups (suc (suc k)) first (spelt (suc (suc k)) n ++ rest) ≡ num n rest
    go true e ih = one_group (suc k) n first rest h (ltb-true n 128 e)
    go false e ih =
        let big : 128 ≤ n = ltb-false n 128 e in
        let l' : n < 128 ^ suc k * 128 = rw pow-suc at l in
        let i : groups (suc k) false (spelt (suc k) (n / 128) ++ rest) ≡ num (n / 128) rest = ih (λ _. omega arith) (omega arith) in
        rw (e, le-ltb (128 + n % 128) 128 (omega arith)) (ap (before (128 + n % 128)) i ∙ ap (λ (v : ℕ). num v rest) (omega arith))

pub decode_encode : (n : ℕ) (rest : List ℕ) → n ≤ number_most → decode (encode n ++ rest) ≡ num n rest
decode_encode n rest l = read_back 5 n true rest (λ e. let z : ◌≡◌ {A = ℕ} 0 1 = cc in absurd (omega arith)) (omega arith)

-- what is read was written so
record Spells (k : ℕ) (first : Bool) (s : List ℕ) (n : ℕ) (rest : List ℕ) : Type 0 where
  same : s ≡ spelt k n ++ rest
  small : n < 128 ^ k
  not_zero : first ≡ false → 0 < n

positive : (k : ℕ) → 1 ≤ 128 ^ k
positive k = pow-le-pow_right {n = 128} (lit≤ tt) {i = 0} {j = k} (omega arith)

last_spells : (k : ℕ) (first : Bool) (b : ℕ) (s : List ℕ) (n : ℕ) (rest : List ℕ) → b < 128 → (first ≡ false → 0 < b) → num (b % 128) s ≡ num n rest → Spells (suc k) first (b ∷ s) n rest
last_spells k first b s n rest l h e =
    let v : b % 128 ≡ n = cc in
    let n≡b : n ≡ b = omega arith in
    let r : s ≡ rest = cc in
    record {
      same = rw (n≡b, lt-ltb b 128 l) (ap (λ (t : List ℕ). b ∷ t) r);
      small = rw (n≡b, pow-suc) (omega (arith, positive k));
      not_zero = λ f. rw n≡b (h f);
    }

closing_spells : (k : ℕ) (first : Bool) (b : ℕ) (s : List ℕ) (n : ℕ) (rest : List ℕ) → b < 128 → closing first b s ≡ num n rest → Spells (suc k) first (b ∷ s) n rest
closing_spells k true b s n rest l e = last_spells k true b s n rest l (λ f. let z : ◌≡◌ {A = ℕ} 0 1 = cc in absurd (omega arith)) e
closing_spells k false b s n rest l e = go (eqb b 0) refl
  where
    go : (t : Bool) → eqb b 0 ≡ t → Spells (suc k) false (b ∷ s) n rest
    go true t = let x = rw t at e in let z : ◌≡◌ {A = ℕ} 0 1 = cc in absurd (omega arith)
    go false t = last_spells k false b s n rest l (λ _. omega (arith, eqb-false b 0 t)) (rw t at e)

-- a group before a number that is spelt right
before_spells : (k : ℕ) (first : Bool) (b : ℕ) (s : List ℕ) (v n : ℕ) (r rest : List ℕ) → 128 ≤ b → b < 256 → Spells k false s v r → num (b % 128 + 128 * v) r ≡ num n rest → Spells (suc k) first (b ∷ s) n rest
before_spells k first b s v n r rest l u p e =
    let q : b % 128 + 128 * v ≡ n = cc in
    let r≡ : r ≡ rest = cc in
    let pos : 0 < v = p.not_zero refl in
    let low : 128 + n % 128 ≡ b = omega arith in
    let high : n / 128 ≡ v = omega arith in
    record {
      same = rw (le-ltb n 128 (omega arith), low, high, ← r≡) (ap (λ (t : List ℕ). b ∷ t) p.same);
      small = rw pow-suc (omega (arith, p.small));
      not_zero = λ f. omega arith;
    }

spells : (k : ℕ) (first : Bool) (s : List ℕ) (n : ℕ) (rest : List ℕ) → AreBytes s → groups k first s ≡ num n rest → Spells k first s n rest
unfolding AreBytes
spells zero first s n rest bytes e = let z : ◌≡◌ {A = ℕ} 0 1 = cc in absurd (omega arith)
spells (suc k) first [] n rest bytes e = let z : ◌≡◌ {A = ℕ} 0 1 = cc in absurd (omega arith)
spells (suc k) first (b ∷ s) n rest bytes e = go (ltb b 128) refl e (λ v r. spells k false s v r (λ i. bytes (suc i)))
  where
    deeper : (x : Num) → before b x ≡ num n rest → 128 ≤ b → ((v : ℕ) (r : List ℕ) → x ≡ num v r → Spells k false s v r) → Spells (suc k) first (b ∷ s) n rest
    deeper (num v r) e l ih = before_spells k first b s v n r rest l (bytes 0) (ih v r refl) e
    deeper bad e l ih = let z : ◌≡◌ {A = ℕ} 0 1 = cc in absurd (omega arith)

    go : (t : Bool) → ltb b 128 ≡ t → pick t (closing first b s) (before b (groups k false s)) ≡ num n rest
        → ((v : ℕ) (r : List ℕ) → groups k false s ≡ num v r → Spells k false s v r) → Spells (suc k) first (b ∷ s) n rest
    go true t e ih = closing_spells k first b s n rest (ltb-true b 128 t) e
    go false t e ih = deeper (groups k false s) e (ltb-false b 128 t) ih

pub encode_decode : (s : List ℕ) (n : ℕ) (rest : List ℕ) → AreBytes s → decode s ≡ num n rest → (s ≡ encode n ++ rest) × (n ≤ number_most)
encode_decode s n rest bytes e = let p = spells 6 true s n rest bytes e in (p.same, omega (arith, p.small))

-- the bytes of a number, group by group
module _ (k n : ℕ) where
  spelt_last : n < 128 → spelt (suc k) n ≡ n ∷ []
  spelt_last h = rw (lt-ltb n 128 h)

  spelt_more : 128 ≤ n → spelt (suc k) n ≡ (128 + n % 128) ∷ spelt k (n / 128)
  spelt_more h = rw (le-ltb n 128 h)

  spelt_some : 1 ≤ length (spelt (suc k) n)
  spelt_some = go (ltb n 128)
    where
      go : (t : Bool) → 1 ≤ length (pick t (n ∷ []) ((128 + n % 128) ∷ spelt k (n / 128)))
      go true = omega arith
      go false = omega arith

spelt_short : (k n : ℕ) → length (spelt k n) ≤ k
spelt_short zero n = omega arith
spelt_short (suc k) n = go (ltb n 128) (spelt_short k (n / 128))
  where
    go : (t : Bool) → length (spelt k (n / 128)) ≤ k → length (pick t (n ∷ []) ((128 + n % 128) ∷ spelt k (n / 128))) ≤ suc k
    go true h = omega arith
    go false h = omega arith

pub encode_short : (n : ℕ) → length (encode n) ≤ 6
encode_short n = spelt_short 6 n

-- what is left of a number fits in one group more than the fuel, and one group less makes it smaller
fewer : (k n : ℕ) → 128 ≤ n → n < 128 ^ suc k → (j : ℕ) × ((k ≡ suc j) × (n / 128 < 128 ^ suc j))
fewer zero n h l = absurd (omega arith)
fewer (suc j) n h l = let l' : n < 128 ^ suc j * 128 = rw pow-suc at l in (j, (refl, omega arith))

-- the loop that counts the groups
pub record Counting (n left groups : ℕ) : Type 0 where
  pub fuel : ℕ
  pub small : left < 128 ^ suc fuel
  pub same : groups + length (spelt (suc fuel) left) ≡ 1 + length (encode n)

pub counting_first : (n : ℕ) → n ≤ number_most → Counting n n 1
counting_first n h = record { fuel = 5; small = omega arith; same = refl }

module _ (n left groups : ℕ) (c : Counting n left groups) where
  pub counting_few : groups ≤ 6
  counting_few = omega (arith, c.same, encode_short n, spelt_some c.fuel left)

  pub counting_more : 127 < left → Counting n (left / 128) (groups + 1)
  counting_more h =
      let f = fewer c.fuel left h c.small in
      record {
        fuel = f.0;
        small = f.1.1;
        same = omega (arith, c.same, ap (λ (k : ℕ). length (spelt (suc k) left)) f.1.0, ap length (spelt_more (suc f.0) left h));
      }

  pub counting_end : left ≤ 127 → groups ≡ length (encode n)
  counting_end h = omega (arith, c.same, ap length (spelt_last c.fuel left (omega arith)))

-- the loop that stores the groups
pub record Putting (n at : ℕ) (out₀ : List ℕ) (left i : ℕ) (out : List ℕ) : Type 0 where
  pub fuel : ℕ
  pub small : left < 128 ^ suc fuel
  pub rest : Left (encode n) at out₀ (spelt (suc fuel) left) i out

pub putting_first : (n at : ℕ) (out : List ℕ) → n ≤ number_most → Putting n at out n at out
putting_first n at out h = record { fuel = 5; small = omega arith; rest = left_first _ _ _ }

module _ (n at : ℕ) (out₀ : List ℕ) (left i : ℕ) (out : List ℕ) (p : Putting n at out₀ left i out) where
  pub putting_room : at + length (encode n) ≤ length out₀ → i < length out
  putting_room h = omega (arith, p.rest.ends, p.rest.long, spelt_some p.fuel left)

  pub putting_more : 127 < left → Putting n at out₀ (left / 128) (i + 1) (set out i (128 + left % 128))
  putting_more h =
      let f = fewer p.fuel left h p.small in
      let e : spelt (suc p.fuel) left ≡ (128 + left % 128) ∷ spelt (suc f.0) (left / 128) = ap (λ (k : ℕ). spelt (suc k) left) f.1.0 ∙ spelt_more (suc f.0) left h in
      record {
        fuel = f.0;
        small = f.1.1;
        rest = left_one _ _ i out (subst (λ (vs : List ℕ). Left (encode n) at out₀ vs i out) e p.rest);
      }

  pub putting_end : left ≤ 127 → Laid (encode n) at out₀ (set out i left) (i + 1)
  putting_end h = left_end _ _ (left_one left [] i out (subst (λ (vs : List ℕ). Left (encode n) at out₀ vs i out) (spelt_last p.fuel left (omega arith)) p.rest))
