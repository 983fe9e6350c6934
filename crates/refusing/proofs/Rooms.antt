-- A part and settings judged: what each verdict says. Assumes nothing.
use mathlib.Core.Path.{◌≡◌, refl, sym, ap, ◌∙◌}
use mathlib.Core.Bool.{Bool, true, false, ◌&&◌}
use mathlib.Core.List.{List}
use Prim.Native.Nat.{ℕ, ◌+◌, ◌*◌, ◌≤◌}
use native.Mathlib.Omega.{arith}
use borrow.Author.Tests.{leb-true}
use lib.Dec.{leb, eqb}
use lib.ListN.{length}
use Rattle.std.specs.Prelude.{Ok, Err}
use Rattle.amounts.specs.Limits.{pick, is_unit, requests_most}
use Rattle.amounts.specs.Settings.{in_range}
use Rattle.card.specs.declared.Refusal.{Refusal}
use Rattle.card.specs.declared.Refusal.TheVariants.{Setting, Short, TooMany, Room, OtherUnit}
use Rattle.trace.specs.Reading.{Read, good, stop, read_of, rows}
use Rattle.trace.specs.Steps.{counted}
use Rattle.trace.proofs.Scanning.{counted_good, counted_stop}
use Rattle.tables.specs.declared.tally.Tally.{Tally}
use Rattle.tables.proofs.Lengths.{and_right}
use Rattle.refusing.specs.Judging.{requests_in, roomed, fitting_read, fitting, fine, settled}

-- ---- the part

pub fitting_stop : (a : Tally) (part : List ℕ) (told : ℕ) (x : Refusal) → counted 0 (read_of (length part) a.settings.catalogue.0 part) ≡ Err x → fitting a part told ≡ Err x
unfolding fitting
fitting_stop a part told x e = ap (fitting_read a told) (counted_stop (read_of (length part) a.settings.catalogue.0 part) x e)

pub fitting_good : (a : Tally) (part : List ℕ) (told count : ℕ) → counted 0 (read_of (length part) a.settings.catalogue.0 part) ≡ Ok count → fitting a part told ≡ roomed a count told
unfolding fitting
fitting_good a part told count e =
    let g = counted_good (read_of (length part) a.settings.catalogue.0 part) count e in
    ap (fitting_read a told) g.0 ∙ ap (λ (n : ℕ). roomed a n told) g.1

-- what a part that fits is: good, with room for its requests in the run and in the event list
pub record Fits (a : Tally) (part : List ℕ) (count told : ℕ) : Type 0 where
  pub reads : read_of (length part) a.settings.catalogue.0 part ≡ good (requests_in a part)
  pub counts : length (requests_in a part) ≡ count
  pub few : a.requests + count ≤ requests_most
  pub room : 2 * count + a.files_kept ≤ told

pub fits : (a : Tally) (part : List ℕ) (count told : ℕ) → fitting a part told ≡ Ok count → Fits a part count told
unfolding fitting
fits a part count told e = read (read_of (length part) a.settings.catalogue.0 part) refl e
  where
    roomy : (n : ℕ) (x y : Bool) → leb (a.requests + n) requests_most ≡ x → leb (2 * n + a.files_kept) told ≡ y → pick x (pick y (Ok n) (Err Room)) (Err TooMany) ≡ Ok count
        → (n ≡ count) × (a.requests + n ≤ requests_most) × (2 * n + a.files_kept ≤ told)
    roomy n true true f g e = ((let h : n ≡ count = cc in h), leb-true _ _ f, leb-true _ _ g)
    roomy n true false f g e = let z : ◌≡◌ {A = ℕ} 0 1 = cc in absurd (omega arith)
    roomy n false y f g e = let z : ◌≡◌ {A = ℕ} 0 1 = cc in absurd (omega arith)

    read : (z : Read) → read_of (length part) a.settings.catalogue.0 part ≡ z → fitting_read a told z ≡ Ok count → Fits a part count told
    read (stop y) q e = let z : ◌≡◌ {A = ℕ} 0 1 = cc in absurd (omega arith)
    read (good qs) q e =
        let is : requests_in a part ≡ qs = ap rows q in
        let x = roomy (length qs) (leb (a.requests + length qs) requests_most) (leb (2 * length qs + a.files_kept) told) refl refl e in
        record { reads = q ∙ ap good (sym is); counts = ap length is ∙ x.0; few = omega (arith, x.0, x.1); room = omega (arith, x.0, x.2) }

-- ---- the settings, the lengths and the unit

pub settled_fine : (unit : ℕ) (a : Tally) (enough : Bool) → settled unit a enough ≡ fine → (in_range a.settings ≡ true) × (enough ≡ true)
unfolding settled
settled_fine unit a enough e = go (is_unit unit && in_range a.settings) refl enough refl (eqb unit a.settings.unit.0) e
  where
    go : (x : Bool) → is_unit unit && in_range a.settings ≡ x → (y : Bool) → enough ≡ y → (z : Bool)
        → pick x (pick y (pick z fine (Err OtherUnit)) (Err Short)) (Err Setting) ≡ fine → (in_range a.settings ≡ true) × (enough ≡ true)
    go true f true g true e = (and_right (is_unit unit) (in_range a.settings) f, g)
    go true f true g false e = let w : ◌≡◌ {A = ℕ} 0 1 = cc in absurd (omega arith)
    go true f false g z e = let w : ◌≡◌ {A = ℕ} 0 1 = cc in absurd (omega arith)
    go false f y g z e = let w : ◌≡◌ {A = ℕ} 0 1 = cc in absurd (omega arith)
