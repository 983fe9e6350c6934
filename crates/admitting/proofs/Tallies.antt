-- The tally after a request is the one that the method counts. Assumes nothing.
use mathlib.Core.Path.{◌≡◌, sym}
use mathlib.Core.List.{List, []}
use Prim.Native.Nat.{ℕ, ◌+◌, ◌<◌}
use native.Mathlib.Omega.{arith}
use native.Mathlib.Nat.{add-zero}
use lib.ListN.{length, get_or, set}
use Rattle.method.specs.Shelf.{Kept, none, kept, Shelf, bytes, files}
use Rattle.method.specs.Method.{Gone, State, Served}
use Rattle.method.specs.Totals.{Totals, counted}
use Rattle.method.specs.declared.outcome.Pass.{Pass}
use Rattle.method.specs.declared.outcome.Outcome.TheVariants.{Hit, Admitted, Passed}
use Rattle.method.proofs.Shelves.{sum_set_eq}
use Rattle.tables.specs.Tally.{totals_of}
use Rattle.tables.specs.declared.tally.Tally.{Tally}
use Rattle.counting.specs.Counting.{after, tallied, hit_totals, pass_totals, admit_totals}

-- ---- the totals, by outcome

pub hit_totals_lem : (y : Totals) (size cost : ℕ) → hit_totals y size cost ≡ counted y (record { dropped = none; evicted = []; outcome = Hit; size = size; cost = cost })
hit_totals_lem y size cost = simp add-zero

pub pass_totals_lem : (y : Totals) (size cost : ℕ) (w : Pass) → pass_totals y size cost ≡ counted y (record { dropped = none; evicted = []; outcome = Passed w; size = size; cost = cost })
pass_totals_lem y size cost w = simp add-zero

pub admit_totals_lem : (y : Totals) (size cost : ℕ) (gone : List Gone)
    → admit_totals y size cost (length gone) ≡ counted y (record { dropped = none; evicted = gone; outcome = Admitted; size = size; cost = cost })
admit_totals_lem y size cost gone = simp add-zero

-- ---- what is kept

-- a record of the same size in place of another
pub hit_kept : (s : Shelf) (f : ℕ) (old new : Kept) → get_or s f none ≡ kept old → new.size ≡ old.size → f < length s
    → (bytes (set s f (kept new)) ≡ bytes s) × (files (set s f (kept new)) ≡ files s)
hit_kept s f old new e z inside =
    let b : bytes (set s f (kept new)) + old.size ≡ new.size + bytes s = rw e at (sum_set_eq (λ r. r.size) s f (kept new) inside) in
    let n : files (set s f (kept new)) + 1 ≡ 1 + files s = rw e at (sum_set_eq (λ r. 1) s f (kept new) inside) in
    (omega arith, omega arith)

-- one in a free slot
pub admit_kept : (s : Shelf) (f : ℕ) (new : Kept) → get_or s f none ≡ none → f < length s
    → (bytes (set s f (kept new)) ≡ bytes s + new.size) × (files (set s f (kept new)) ≡ files s + 1)
admit_kept s f new e inside =
    let b : bytes (set s f (kept new)) + 0 ≡ new.size + bytes s = rw e at (sum_set_eq (λ r. r.size) s f (kept new) inside) in
    let n : files (set s f (kept new)) + 0 ≡ 1 + files s = rw e at (sum_set_eq (λ r. 1) s f (kept new) inside) in
    (omega arith, omega arith)

-- ---- together

pub tallied_after : (a : Tally) (x : Served State) {b n : ℕ} {y : Totals} → bytes x.state.shelf ≡ b → files x.state.shelf ≡ n → y ≡ counted (totals_of a) x.reply
    → tallied a x.state.inflation b n y ≡ after a x
tallied_after a x eb en ey = λ i. tallied a x.state.inflation (sym eb i) (sym en i) (ey i)
