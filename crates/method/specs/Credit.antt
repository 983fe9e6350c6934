-- The plain method: no inflation, and each eviction subtracts the lowest credit from every credit (document 01, "Credit"; document 001, section 3). `key` is the credit. Assumes nothing.
use Rattle.std.specs.Prelude.{Bool, true, false, List, [], ◌∷◌, map, ℕ, zero, suc, ◌-◌, ltb, length, get_or, set, replicate}
use Rattle.amounts.specs.Limits.{pick}
use Rattle.amounts.specs.Worth.{product_of}
use Rattle.amounts.specs.Requests.{Request, resolved}
use Rattle.method.specs.Shelf.{Kept, Slot, none, kept, Shelf, nothing, at}
use Rattle.method.specs.Method.{Policy, gds, gdsf, Settings, Gone, Reply, Served, Wanted, next, beside, among, missed, again, goes, old_copy, drop_old, dropping}
use Rattle.method.specs.declared.outcome.Pass.TheVariants.{TooBig, LowKey}
use Rattle.method.specs.declared.outcome.Outcome.TheVariants.{Hit, Admitted, Passed}

-- d is subtracted
abbrev pub less : ℕ → Slot → Slot
less d none = none
less d (kept r) = kept (record { size = r.size; cost = r.cost; freq = r.freq; key = r.key - d; stamp = r.stamp })

pub record Drained : Type 0 where
  pub shelf : Shelf
  pub taken : List Gone

abbrev pub too : ℕ → Kept → Drained → Drained
too i r x = record { shelf = x.shelf; taken = record { file = i; was = r } ∷ x.taken }

-- document 01, "Credit": each eviction takes the lowest credit, subtracts it from every credit, and drops that file
unfoldable pub drain : Settings → Wanted → ℕ → Shelf → Drained
drain c e zero s = record { shelf = s; taken = [] }
drain c e (suc n) s =
    elim (next c e s) [
      | nothing ↦ record { shelf = s; taken = [] }
      | at i r ↦ too i r (drain c e n (map (less r.key) (set s i none)))
    ]

pub record Ledger : Type 0 where
  pub shelf : Shelf
  pub stamp : ℕ

abbrev pub paid : Shelf → ℕ → Reply → Served Ledger
paid s t a = record { state = record { shelf = s; stamp = suc t }; reply = a }

-- document 01, "Credit": setting a key sets the credit to the product
abbrev pub credited : ℕ → ℕ → ℕ → ℕ → Slot
credited size cost f t = kept (record { size = size; cost = cost; freq = f; key = product_of f size cost; stamp = t })

-- document 01, "Credit": a `low` request leaves all credits as they stood
abbrev pub settle_c : Shelf → ℕ → Request → Drained → Bool → Served Ledger
settle_c s t q x true = paid s t (missed q [] (Passed LowKey))
settle_c s t q x false = paid x.shelf t (missed q x.taken Admitted)

-- document 01, "Credit": policy 1 gives the newcomer its credit after the evictions; policy 2 before, so it is subtracted from too
unfoldable pub admit_c : Policy → Settings → Shelf → ℕ → Request → Served Ledger
admit_c gds c s t q =
    let x = drain c (beside q.size) (length s) s in
    paid (set x.shelf q.file (credited q.size q.cost 1 t)) t (missed q x.taken Admitted)
admit_c gdsf c s t q =
    let x = drain c among (length s) (set s q.file (credited q.size q.cost 1 t)) in
    settle_c s t q x (goes q.file x.taken)

abbrev pub meet_c : Policy → Settings → Shelf → ℕ → Request → Slot → Served Ledger
meet_c p c s t q (kept r) =
    paid (set s q.file (credited r.size r.cost (again p r.freq) t)) t
    (record { dropped = none; evicted = []; outcome = Hit; size = r.size; cost = r.cost })
meet_c p c s t q none = pick (ltb c.capacity q.size) (paid s t (missed q [] (Passed TooBig))) (admit_c p c s t q)

-- document 02, ticket 2: the old copy is dropped and its credit simply gone; then the request goes on
unfoldable pub step_c : Policy → Settings → Ledger → Request → Served Ledger
step_c p c d q =
    let x = old_copy q.size (get_or d.shelf q.file none) in
    let s = drop_old q.file x d.shelf in
    dropping x (meet_c p c s d.stamp (resolved q) (get_or s q.file none))

abbrev pub fresh_c : Settings → Ledger
fresh_c c = record { shelf = replicate c.catalogue none; stamp = 0 }
