-- What tally and tables stand for in whole numbers, and what their words say by themselves, less the lifts. Assumes nothing.
use mathlib.Core.Path.{◌≡◌, sym, ap, ◌∙◌}
use mathlib.Core.List.{map}
use Prim.Native.Nat.{ℕ, ◌*◌}
use Rattle.amounts.specs.Limits.{lift}
use Rattle.amounts.specs.declared.settings.Settings.{Settings}
use Rattle.method.specs.Method.{State, fresh}
use Rattle.method.specs.Credit.{less}
use Rattle.method.specs.Whole.{raise}
use Rattle.method.specs.Promise.{SoundAt}
use Rattle.method.proofs.Raising.{raise_none, less_raise, near_sound}
use Rattle.tables.specs.Tables.{Tables, shelf_of, cleared}
use Rattle.tables.specs.Tally.{store_of, policy_in, state_of, whole_of, fresh_tally}
use Rattle.tables.specs.Sound.{Sound}
use Rattle.tables.specs.declared.tally.Tally.{Tally}
use Rattle.tables.proofs.Shelves.{fresh_shelf}

-- sound tables stand for a sound state by their words alone too
pub near : {a : Tally} {t : Tables} → Sound a t → SoundAt (policy_in a.settings) (store_of a.settings) (state_of a t) a.requests
near {a} {t} s = near_sound (policy_in a.settings) (store_of a.settings) (a.lifts * lift) (state_of a t) a.requests s.shelf

-- tables that stand for one whole state under one tally have one shelf
pub near_one : (a : Tally) (t u : Tables) → whole_of a t ≡ whole_of a u → shelf_of a.settings.catalogue.0 t ≡ shelf_of a.settings.catalogue.0 u
near_one a t u e =
    let d : ℕ = a.lifts * lift in
    sym (less_raise d (shelf_of a.settings.catalogue.0 t)) ∙ ap (λ (st : State). map (less d) st.shelf) e ∙ less_raise d (shelf_of a.settings.catalogue.0 u)

-- a fresh start stands for the method's
pub fresh_whole : (s : Settings) (t : Tables) → whole_of (fresh_tally s) (cleared s.places.0 s.catalogue.0 t) ≡ fresh (store_of s)
fresh_whole s t =
    ap (λ x. record { inflation = 0; shelf = x; stamp = 0 }) (ap (map (raise 0)) (fresh_shelf s.places.0 s.catalogue.0 t) ∙ raise_none 0 s.catalogue.0)
