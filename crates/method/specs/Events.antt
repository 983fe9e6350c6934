-- The event list (document 01, "Event list"; document 02, ticket 2). Assumes nothing.
use Rattle.std.specs.Prelude.{◌≡◌, List, [], ◌∷◌, ◌++◌, map, ℕ, ◌+◌, ◌*◌, ◌<◌, ◌≤◌, Result, MatchResult}
use Rattle.amounts.specs.Limits.{catalogue_most}
use Rattle.amounts.specs.Requests.{Request}
use Rattle.method.specs.Shelf.{Slot, none, kept}
use Rattle.method.specs.Method.{Gone, Reply}
use Rattle.method.specs.declared.outcome.Pass.TheVariants.{TooBig, LowKey}
use Rattle.method.specs.declared.events.Kind as kinds
use Rattle.method.specs.declared.events.Kind.{Kind}
use Rattle.method.specs.declared.events.UnknownKind.{UnknownKind}
use Rattle.method.specs.declared.outcome.Outcome.{Outcome}
use Rattle.method.specs.declared.outcome.Outcome.TheVariants.{Hit, Admitted, Passed}

-- document 01, "Event list": kind × 32,768 + file
abbrev pub event : ℕ → ℕ → ℕ
event kind file = kind * catalogue_most + file

-- document 01, "Event list": 1 hit, 2 admit, 3 big, 4 low
abbrev pub kind : Outcome → ℕ
kind Hit = 1
kind Admitted = 2
kind (Passed TooBig) = 3
kind (Passed LowKey) = 4

-- document 01, "Event list": the number that the list holds for each kind; document 02, ticket 2: 6 stale
abbrev pub number_of : Kind → ℕ
number_of kinds.TheVariants.Hit = 1
number_of kinds.TheVariants.Admit = 2
number_of kinds.TheVariants.Big = 3
number_of kinds.TheVariants.Low = 4
number_of kinds.TheVariants.Evict = 5
number_of kinds.TheVariants.Stale = 6

-- the kind of this number, or the number that no kind has
abbrev pub Names : ℕ → Result Kind UnknownKind → Type 0
Names n r = MatchResult r (λ k. number_of k ≡ n) (λ e. (e.0 ≡ n) × (1 ≤ n → 6 < n))

-- 5 evict
abbrev pub evict : Gone → ℕ
evict g = event 5 g.file

-- document 02, ticket 2: 6 stale, for the old copy that a request for the file dropped
abbrev pub stale : ℕ → Slot → List ℕ
stale file none = []
stale file (kept r) = event 6 file ∷ []

-- a request's evictions come first, in order, then its own entry
abbrev pub answered : Request → Reply → List ℕ
answered q a = map evict a.evicted ++ event (kind a.outcome) q.file ∷ []

-- document 02, ticket 2: its stale copy comes before its evictions
abbrev pub entries : Request → Reply → List ℕ
entries q a = stale q.file a.dropped ++ answered q a

unfoldable pub events : List Request → List Reply → List ℕ
events [] bs = []
events (q ∷ qs) [] = []
events (q ∷ qs) (a ∷ bs) = entries q a ++ events qs bs
