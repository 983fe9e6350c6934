-- What can be decided: numbers, pairs, implications, and what is asked of every number below a bound. Assumes nothing.
use mathlib.Core.Path.{◌≡◌, refl, sym, subst}
use mathlib.Core.Logic.{◌⊎◌, inl, inr, ⊎_elim}
use mathlib.Core.Bool.{Bool, true, false, true≢false}
use Prim.Native.Nat.{ℕ, zero, suc, ◌≤◌, ◌<◌}
use native.Mathlib.Omega.{arith}
use Rattle.amounts.proofs.Tests.{same, below}

abbrev pub Decided : Type 0 → Type 0
Decided P = P ⊎ (P → ⊥)

pub decide_as : {P Q : Type 0} → (P → Q) → (Q → P) → Decided P → Decided Q
decide_as f g d = ⊎_elim (λ p. inl (f p)) (λ np. inr (λ q. np (g q))) d

pub decide_both : {P Q : Type 0} → Decided P → Decided Q → Decided (P × Q)
decide_both d e = ⊎_elim (λ p. ⊎_elim (λ q. inl (p, q)) (λ nq. inr (λ x. nq x.1)) e) (λ np. inr (λ x. np x.0)) d

pub decide_either : {P Q : Type 0} → Decided P → Decided Q → Decided (P ⊎ Q)
decide_either d e = ⊎_elim (λ p. inl (inl p)) (λ np. ⊎_elim (λ q. inl (inr q)) (λ nq. inr (λ x. ⊎_elim np nq x)) e) d

pub decide_if : {P Q : Type 0} → Decided P → Decided Q → Decided (P → Q)
decide_if d e = ⊎_elim (λ p. ⊎_elim (λ q. inl (λ _. q)) (λ nq. inr (λ f. nq (f p))) e) (λ np. inl (λ p. absurd (np p))) d

pub decide_not : {P : Type 0} → Decided P → Decided (P → ⊥)
decide_not d = ⊎_elim (λ p. inr (λ np. np p)) (λ np. inl np) d

pub decide_le : (a b : ℕ) → Decided (a ≤ b)
decide_le a b = ⊎_elim (λ l. inr (λ h. omega arith)) (λ l. inl l) (below b a)

pub decide_lt : (a b : ℕ) → Decided (a < b)
decide_lt a b = ⊎_elim (λ l. inl l) (λ l. inr (λ h. omega arith)) (below a b)

pub decide_false : (b : Bool) → Decided (b ≡ false)
decide_false true = inr (λ e. true≢false e)
decide_false false = inl refl

-- what is asked of every number below a bound
pub all_below : {P : ℕ → Type 0} → ((i : ℕ) → Decided (P i)) → (n : ℕ) → Decided ((i : ℕ) → i < n → P i)
all_below d zero = inl (λ i h. absurd (omega arith))
all_below {P} d (suc n) = ⊎_elim
    (λ p. ⊎_elim (λ f. inl (λ i h. ⊎_elim (λ e. subst P (sym e) p) (λ ne. f i (omega arith)) (same i n))) (λ nf. inr (λ g. nf (λ i h. g i (omega arith)))) (all_below d n))
    (λ np. inr (λ g. np (g n (omega arith))))
    (d n)
