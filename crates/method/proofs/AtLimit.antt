-- Worked at the limits: a hit on a file whose frequency is at its own, in both methods, and the lifts of a run that reaches 2 to the 60th (document 02, ticket 5). Assumes nothing.
use mathlib.Core.Path.{◌≡◌, refl}
use mathlib.Core.List.{[], ◌∷◌}
use Rattle.amounts.specs.Order.{lower_of}
use Rattle.amounts.specs.Worth.{worth_of, product_of, in_force}
use Rattle.amounts.specs.Requests.{Request}
use Rattle.method.specs.Shelf.{Kept, none, kept, Shelf, sum, lowest}
use Rattle.method.specs.Method.{gds, gdsf, Settings, State, hit, clear, admit, step}
use Rattle.method.specs.Credit.{meet_c}
use Rattle.method.specs.Whole.{lifted, lifts_of}

-- one place for two files
store : Settings
store = record { capacity = 1; places = 1; catalogue = 2 }

-- ---- the frequency, at size 1 and cost 1

often : Kept
often = record { size = 1; cost = 1; freq = 1048575; key = 5; stamp = 3 }

asked : Request
asked = record { file = 0; size = 1; cost = 1 }

-- it stays; key and stamp are set anew
anew : Shelf
anew = kept (record { size = 1; cost = 1; freq = 1048575; key = 17592169267200; stamp = 9 }) ∷ []

hit_at_limit : (hit gdsf 0 (kept often ∷ []) 9 0 often).state.shelf ≡ anew
unfolding product_of worth_of often anew
hit_at_limit = refl

credit_at_limit : (meet_c gdsf store (kept often ∷ []) 9 asked (kept often)).state.shelf ≡ anew
unfolding product_of worth_of often asked anew
credit_at_limit = refl

-- ---- the lifts: L is one below 2 to the 60th, and the file that is kept has a key above it

before : State
before = record { inflation = 1152921504606846975; shelf = kept (record { size = 1; cost = 1; freq = 1; key = 1152921504606846980; stamp = 0 }) ∷ none ∷ []; stamp = 1 }

other : Request
other = record { file = 1; size = 1; cost = 1 }

-- a request that evicts it finds no lift due
none_due : lifts_of (step gds store) 0 before (other ∷ []) ≡ 0
unfolding lifts_of lifted step admit clear lowest sum lower_of product_of worth_of in_force store before other
none_due = refl

-- the next one does, once
one_due : lifts_of (step gds store) 0 before (other ∷ other ∷ []) ≡ 1
unfolding lifts_of lifted step admit clear lowest sum lower_of product_of worth_of in_force store before other
one_due = refl
