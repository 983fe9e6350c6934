-- How the run makes room, for both policies: the lowest are set aside while the newcomer does not fit, and none whose key is above a limit. Assumes nothing.
use Rattle.std.specs.Prelude.{Bool, true, false, List, [], ◌∷◌, ℕ, zero, suc, ltb, set}
use Rattle.amounts.specs.Limits.{pick}
use Rattle.method.specs.Shelf.{Kept, none, Shelf, nothing, at, lowest}
use Rattle.method.specs.Method.{Settings, Gone, beside, fits}

-- document 01, "The run": whether the newcomer would be taken itself, and what is set aside until then
pub record Aside : Type 0 where
  pub low : Bool
  pub inflation : ℕ
  pub shelf : Shelf
  pub gone : List Gone

-- document 01, "The run": nothing more is set aside
abbrev pub stop : Bool → ℕ → Shelf → Aside
stop b l s = record { low = b; inflation = l; shelf = s; gone = [] }

-- document 01, "The run": file i, of which r is kept, is set aside first
abbrev pub first : ℕ → Kept → Aside → Aside
first i r x = record { low = x.low; inflation = x.inflation; shelf = x.shelf; gone = record { file = i; was = r } ∷ x.gone }

-- document 001, section 5: the lowest go until the newcomer, of size z, fits; it is taken itself where none is left below the limit
unfoldable pub aside : Settings → ℕ → ℕ → ℕ → ℕ → Shelf → Aside
aside c z limit zero l s = stop false l s
aside c z limit (suc n) l s =
    pick (fits c (beside z) s) (stop false l s)
    (elim (lowest s) [
      | nothing ↦ stop true l s
      | at i r ↦ pick (ltb limit r.key) (stop true l s) (first i r (aside c z limit n r.key (set s i none)))
    ])
