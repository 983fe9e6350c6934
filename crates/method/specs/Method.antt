-- The two policies (document 01, "The run"; document 000, Figure 5; document 001, section 5). Assumes nothing.
use Rattle.std.specs.Prelude.{Bool, true, false, ◌&&◌, ◌||◌, List, [], ◌∷◌, ℕ, zero, suc, ◌+◌, leb, ltb, eqb, length, get_or, set, replicate}
use Rattle.amounts.specs.Limits.{pick, frequency_most}
use Rattle.amounts.specs.Worth.{product_of}
use Rattle.amounts.specs.Requests.{Request, resolved}
use Rattle.method.specs.Shelf.{Kept, Slot, none, kept, Shelf, bytes, files, Found, nothing, at, lowest}
use Rattle.method.specs.declared.outcome.Pass.TheVariants.{TooBig, LowKey}
use Rattle.method.specs.declared.outcome.Outcome.{Outcome}
use Rattle.method.specs.declared.outcome.Outcome.TheVariants.{Hit, Admitted, Passed}

-- GreedyDual-Size is policy 1, GreedyDual-Size-Frequency is policy 2
pub data Policy : Type 0 where
  gds gdsf : Policy

abbrev pub policy_of : ℕ → Policy
policy_of n = pick (eqb n 1) gds gdsf

pub record Settings : Type 0 where
  pub capacity : ℕ
  pub places : ℕ
  pub catalogue : ℕ

-- an evicted file, with what was kept of it
pub record Gone : Type 0 where
  pub file : ℕ
  pub was : Kept

-- what a request gives: the old copy that it dropped, if any; the evicted in order; its outcome; and the size and cost that it is counted with
pub record Reply : Type 0 where
  pub dropped : Slot
  pub evicted : List Gone
  pub outcome : Outcome
  pub size : ℕ
  pub cost : ℕ

pub record Served (S : Type 0) : Type 0 where
  pub state : S
  pub reply : Reply

-- ---- What fits, and what goes where it does not

-- so many bytes and files are wanted beside the shelf
pub record Wanted : Type 0 where
  pub bytes : ℕ
  pub files : ℕ

-- document 01, "Fits"
abbrev pub fits : Settings → Wanted → Shelf → Bool
fits c e s = leb (bytes s + e.bytes) c.capacity && leb (files s + e.files) c.places

-- policy 1 makes room beside the shelf for the newcomer; policy 2 counts it among the files of the shelf
abbrev pub beside : ℕ → Wanted
beside size = record { bytes = size; files = 1 }

abbrev pub among : Wanted
among = record { bytes = 0; files = 0 }

-- the file that goes next: none where it fits
abbrev pub next : Settings → Wanted → Shelf → Found
next c e s = pick (fits c e s) nothing (lowest s)

pub record Cleared : Type 0 where
  pub inflation : ℕ
  pub shelf : Shelf
  pub taken : List Gone

abbrev pub also : ℕ → Kept → Cleared → Cleared
also i r x = record { inflation = x.inflation; shelf = x.shelf; taken = record { file = i; was = r } ∷ x.taken }

-- document 000, Figure 5, (4) to (6): while it does not fit, L becomes the lowest key and that file goes; n is enough turns
unfoldable pub clear : Settings → Wanted → ℕ → ℕ → Shelf → Cleared
clear c e zero l s = record { inflation = l; shelf = s; taken = [] }
clear c e (suc n) l s =
    elim (next c e s) [
      | nothing ↦ record { inflation = l; shelf = s; taken = [] }
      | at i r ↦ also i r (clear c e n r.key (set s i none))
    ]

-- ---- A request, at inflation l, shelf s and stamp t

-- what a run carries from request to request; the stamp is that of the next one
pub record State : Type 0 where
  pub inflation : ℕ
  pub shelf : Shelf
  pub stamp : ℕ

abbrev pub served : ℕ → Shelf → ℕ → Reply → Served State
served l s t a = record { state = record { inflation = l; shelf = s; stamp = suc t }; reply = a }

-- a miss is counted with the request's size and cost
abbrev pub missed : Request → List Gone → Outcome → Reply
missed q e o = record { dropped = none; evicted = e; outcome = o; size = q.size; cost = q.cost }

-- document 001, section 5, (1): key = L + product
abbrev pub keyed : ℕ → ℕ → ℕ → ℕ → ℕ → Kept
keyed l size cost f t = record { size = size; cost = cost; freq = f; key = l + product_of f size cost; stamp = t }

-- the newcomer, with frequency 1
abbrev pub newcomer : ℕ → Request → ℕ → Slot
newcomer l q t = kept (keyed l q.size q.cost 1 t)

-- document 01, "The run": the frequency after a hit is always 1 for policy 1, one more for policy 2; it stops rising at its limit (document 02, ticket 5)
abbrev pub again : Policy → ℕ → ℕ
again gds f = 1
again gdsf f = pick (ltb f frequency_most) (suc f) f

-- document 01, "The run": a hit on what is kept sets its key anew; L stays
abbrev pub hit : Policy → ℕ → Shelf → ℕ → ℕ → Kept → Served State
hit p l s t file r =
    served l (set s file (kept (keyed l r.size r.cost (again p r.freq) t))) t
    (record { dropped = none; evicted = []; outcome = Hit; size = r.size; cost = r.cost })

abbrev pub goes : ℕ → List Gone → Bool
goes file [] = false
goes file (g ∷ gs) = eqb file g.file || goes file gs

-- document 001, section 5, (a) and (b): with the newcomer among those taken nothing is evicted; else they go and L is the last one's key
abbrev pub settle : ℕ → Shelf → ℕ → Request → Cleared → Bool → Served State
settle l s t q x true = served l s t (missed q [] (Passed LowKey))
settle l s t q x false = served x.inflation x.shelf t (missed q x.taken Admitted)

-- document 01, "The run": a miss that is not too big; policy 1 sets the key after the evictions, policy 2 before them
unfoldable pub admit : Policy → Settings → ℕ → Shelf → ℕ → Request → Served State
admit gds c l s t q =
    let x = clear c (beside q.size) (length s) l s in
    served x.inflation (set x.shelf q.file (newcomer x.inflation q t)) t (missed q x.taken Admitted)
admit gdsf c l s t q =
    let x = clear c among (length s) l (set s q.file (newcomer l q t)) in
    settle l s t q x (goes q.file x.taken)

-- document 01, "The run": a miss, `big` where the size is above the capacity
abbrev pub miss : Policy → Settings → ℕ → Shelf → ℕ → Request → Served State
miss p c l s t q = pick (ltb c.capacity q.size) (served l s t (missed q [] (Passed TooBig))) (admit p c l s t q)

-- told by the file number alone, once no copy of another size is kept
abbrev pub meet : Policy → Settings → ℕ → Shelf → ℕ → Request → Slot → Served State
meet p c l s t q (kept r) = hit p l s t q.file r
meet p c l s t q none = miss p c l s t q

-- document 02, ticket 2: the old copy, where the size asked for differs from the kept one
abbrev pub old_copy : ℕ → Slot → Slot
old_copy size none = none
old_copy size (kept r) = pick (eqb r.size size) none (kept r)

-- document 02, ticket 2: the shelf without the old copy of a file, if there is one
abbrev pub drop_old : ℕ → Slot → Shelf → Shelf
drop_old file none s = s
drop_old file (kept r) s = set s file none

-- document 02, ticket 2: the old copy is told with what the request gives then
abbrev pub dropping : {S : Type 0} → Slot → Served S → Served S
dropping x y =
    let a = y.reply in
    record { state = y.state; reply = record { dropped = x; evicted = a.evicted; outcome = a.outcome; size = a.size; cost = a.cost } }

-- one request: its cost is resolved before anything else; then the old copy is dropped and L stays (document 02, ticket 2), and the request goes on without it
unfoldable pub step : Policy → Settings → State → Request → Served State
step p c st q =
    let x = old_copy q.size (get_or st.shelf q.file none) in
    let s = drop_old q.file x st.shelf in
    dropping x (meet p c st.inflation s st.stamp (resolved q) (get_or s q.file none))

-- document 01, "The run": L starts at 0, and nothing is kept
abbrev pub fresh : Settings → State
fresh c = record { inflation = 0; shelf = replicate c.catalogue none; stamp = 0 }

-- ---- A run: the method f from the state st

pub record Run (S : Type 0) : Type 0 where
  pub state : S
  pub replies : List Reply

abbrev pub after : {S : Type 0} → Reply → Run S → Run S
after a r = record { state = r.state; replies = a ∷ r.replies }

unfoldable pub run : {S : Type 0} → (S → Request → Served S) → S → List Request → Run S
run f st [] = record { state = st; replies = [] }
run f st (q ∷ qs) = let x = f st q in after x.reply (run f x.state qs)
