-- The promise of the judge admits one answer, and that is yes for sound tables. Assumes nothing.
use mathlib.Core.Path.{◌≡◌, refl}
use mathlib.Core.Bool.{Bool, true, false}
use mathlib.Core.List.{List}
use Prim.Native.Nat.{ℕ}
use Rattle.tables.specs.Tables.{Tables}
use Rattle.tables.specs.Sound.{Sound, Verdict}
use Rattle.tables.specs.Worked.{worked_tally, worked_tables}
use Rattle.tables.specs.declared.tally.Tally.{Tally}
use Rattle.tables.proofs.Worked.{worked}

module _ {a : Tally} {t : Tables} {entry entry' free free' : List ℕ} where
  pub sound_yes : (r : Bool) → Verdict a t entry entry' free free' r → Sound a t → r ≡ true
  sound_yes true v s = refl
  sound_yes false v s = absurd (v.no refl s)

-- two verdicts on one tally and the same tables are one answer
pub one_verdict : {a : Tally} {t : Tables} {entry entry₁ entry₂ free free₁ free₂ : List ℕ} (r r' : Bool) → Verdict a t entry entry₁ free free₁ r → Verdict a t entry entry₂ free free₂ r' → r ≡ r'
one_verdict true true v w = refl
one_verdict true false v w = absurd (w.no refl (v.yes refl))
one_verdict false true v w = absurd (v.no refl (w.yes refl))
one_verdict false false v w = refl

-- a judge that answers no to everything does not meet the promise: the worked tables are sound
pub worked_yes : {entry entry' free free' : List ℕ} (r : Bool) → Verdict worked_tally worked_tables entry entry' free free' r → r ≡ true
worked_yes r v = sound_yes r v worked
