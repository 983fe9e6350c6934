-- Answers that are exact: how they are given, and what a branch learns from one. Assumes nothing.
use mathlib.Core.Path.{◌≡◌, sym, ◌∙◌}
use mathlib.Core.Bool.{Bool, true, false, true≢false}
use Rattle.amounts.proofs.Tests.{told}
use Rattle.tables.specs.Exact.{Exact}

pub answer_yes : {P : Type 0} → P → Exact P true
answer_yes h = record { yes = λ _. h; no = λ e. absurd (true≢false e) }

pub answer_no : {P : Type 0} → (P → ⊥) → Exact P false
answer_no h = record { yes = λ e. absurd (true≢false (sym e)); no = λ _ p. h p }

-- by a test that says what is asked, made here or by a callee
pub answer_test : {P : Type 0} (b : Bool) → (b ≡ true → P) → (P → b ≡ true) → Exact P b
answer_test b f g = record { yes = f; no = λ e p. true≢false (sym (g p) ∙ e) }

pub answer_call : {P : Type 0} {r x : Bool} → r ≡ x → (x ≡ true → P) → (P → x ≡ true) → Exact P r
answer_call {r = r} e f g = answer_test r (λ b. f (told e b)) (λ p. e ∙ g p)

-- no, where a callee's test failed that had to pass
pub answer_denied : {P : Type 0} {r x : Bool} → r ≡ x → r ≡ false → (P → x ≡ true) → Exact P false
answer_denied e t g = answer_no (λ p. true≢false (sym (g p) ∙ told e t))

-- by an exact answer of something that comes to the same
pub answer_as : {P Q : Type 0} {b : Bool} → Exact Q b → (Q → P) → (P → Q) → Exact P b
answer_as x f g = record { yes = λ e. f (x.yes e); no = λ e p. x.no e (g p) }

-- what a branch learns
pub passed : {P : Type 0} {b : Bool} → Exact P b → b ≡ true → P
passed x e = x.yes e

pub failed : {P : Type 0} {b : Bool} → Exact P b → b ≡ false → P → ⊥
failed x e = x.no e
