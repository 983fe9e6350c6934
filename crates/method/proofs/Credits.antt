-- A key less the inflation is the credit: the method with inflation and the plain method give the same replies. Assumes nothing.
use mathlib.Core.Path.{◌≡◌, refl, sym, ap, ◌∙◌}
use mathlib.Core.Bool.{Bool, true, false}
use mathlib.Core.List.{List, [], ◌∷◌, map}
use Prim.Native.Nat.{ℕ, zero, suc, ◌+◌, ◌-◌, ◌≤◌}
use native.Mathlib.Omega.{arith}
use lib.Dec.{ltb}
use lib.ListN.{length, get_or, set, length-map, get_or-map}
use Rattle.amounts.specs.Limits.{pick}
use Rattle.amounts.specs.Requests.{Request, resolved}
use Rattle.method.specs.Shelf.{Kept, Slot, none, kept, Shelf, Found, nothing, at, Each}
use Rattle.method.specs.Method.{Policy, gds, gdsf, Settings, Gone, Reply, Served, Wanted, next, beside, among, Cleared, clear}
use Rattle.method.specs.Method.{State, served, missed, again, goes, settle, admit, meet, old_copy, drop_old, dropping, step, fresh, Run, run}
use Rattle.method.specs.Whole.{higher, raise}
use Rattle.method.specs.Credit.{less, Drained, too, drain, Ledger, paid, credited, settle_c, admit_c, meet_c, step_c, fresh_c}
use Rattle.method.specs.Promise.{bare, bare_copy, plain, SameAsCredit}
use Rattle.method.specs.declared.outcome.Pass.TheVariants.{TooBig}
use Rattle.method.specs.declared.outcome.Outcome.{Outcome}
use Rattle.method.specs.declared.outcome.Outcome.TheVariants.{Admitted, Passed}
use Rattle.method.proofs.Shelves.{none_kept, each_set, not_lower_key}
use Rattle.method.proofs.Room.{next_at, clear_stop, clear_more}
use Rattle.method.proofs.Raising.{raise_f, next_raise, raise_set, raise_none, less_raise, old_raise, drop_raise}

-- what is taken off each credit goes onto the inflation
raise_less : (l d : ℕ) (s : Shelf) → Each (λ q. d ≤ q.key) s → map (raise (l + d)) (map (less d) s) ≡ map (raise l) s
raise_less l d [] h = refl
raise_less l d (none ∷ s) h = rw (raise_less l d s (λ j. h (suc j)))
raise_less l d (kept r ∷ s) h =
    let k : d ≤ r.key = h 0 r refl in
    let e : l + d + (r.key - d) ≡ l + r.key = omega arith in
    rw (raise_less l d s (λ j. h (suc j)), e)

-- ---- making room

drain_stop : (c : Settings) (e : Wanted) (n : ℕ) (s : Shelf) → next c e s ≡ nothing → drain c e (suc n) s ≡ record { shelf = s; taken = [] }
unfolding drain
drain_stop c e n s h = rw (h, drain)

drain_more : (c : Settings) (e : Wanted) (n : ℕ) (s : Shelf) (i : ℕ) (r : Kept) → next c e s ≡ at i r
    → drain c e (suc n) s ≡ too i r (drain c e n (map (less r.key) (set s i none)))
unfolding drain
drain_more c e n s i r h = rw (h, drain)

record Agree (x : Cleared) (y : Drained) : Type 0 where
  shelf : x.shelf ≡ map (raise x.inflation) y.shelf
  taken : map bare x.taken ≡ map bare y.taken

drain_turn : (c : Settings) (e : Wanted) (n l : ℕ) (s : Shelf) → ((k : ℕ) (t : Shelf) → Agree (clear c e n k (map (raise k) t)) (drain c e n t))
    → (f : Found) → next c e s ≡ f → Agree (clear c e (suc n) l (map (raise l) s)) (drain c e (suc n) s)
drain_turn c e n l s ih nothing h =
    rw (clear_stop c e n l (map (raise l) s) (next_raise c e l s ∙ ap (raise_f l) h), drain_stop c e n s h) (record { shelf = refl; taken = refl })
drain_turn c e n l s ih (at i r) h =
    let low : Each (λ q. r.key ≤ q.key) (set s i none) = each_set _ s i none (λ q w. none_kept w) (λ j q w. not_lower_key r q ((next_at c e s i r h).1.1 j q w)) in
    let t : Shelf = map (less r.key) (set s i none) in
    let same : set (map (raise l) s) i none ≡ map (raise (l + r.key)) t = raise_set l s i none ∙ sym (raise_less l r.key (set s i none) low) in
    let a : Agree (clear c e n (l + r.key) (map (raise (l + r.key)) t)) (drain c e n t) = ih (l + r.key) t in
    rw (clear_more c e n l (map (raise l) s) i (higher l r) (next_raise c e l s ∙ ap (raise_f l) h), drain_more c e n s i r h, same)
    (record { shelf = a.shelf; taken = ap (λ (k : List Gone). bare (record { file = i; was = r }) ∷ k) a.taken })

clear_drain : (c : Settings) (e : Wanted) (n l : ℕ) (s : Shelf) → Agree (clear c e n l (map (raise l) s)) (drain c e n s)
unfolding clear drain
clear_drain c e zero l s = record { shelf = refl; taken = refl }
clear_drain c e (suc n) l s = drain_turn c e n l s (λ k t. clear_drain c e n k t) (next c e s) refl

-- whether a file goes is told by the numbers alone
goes_bare : (f : ℕ) (gs : List Gone) → goes f (map bare gs) ≡ goes f gs
goes_bare f [] = refl
goes_bare f (g ∷ gs) = rw (goes_bare f gs)

goes_same : (f : ℕ) (gs hs : List Gone) → map bare gs ≡ map bare hs → goes f gs ≡ goes f hs
goes_same f gs hs e = sym (goes_bare f gs) ∙ ap (goes f) e ∙ goes_bare f hs

-- ---- a request

-- the state with inflation l whose keys are l more than the ledger's credits
abbrev above : ℕ → Ledger → State
above l d = record { inflation = l; shelf = map (raise l) d.shelf; stamp = d.stamp }

record Same (x : Served State) (y : Served Ledger) : Type 0 where
  state : x.state ≡ above x.state.inflation y.state
  reply : plain x.reply ≡ plain y.reply

same_served : (l : ℕ) (s : Shelf) (t : ℕ) (u : Shelf) (a b : Reply) → s ≡ map (raise l) u → plain a ≡ plain b → Same (served l s t a) (paid u t b)
same_served l s t u a b h g = record { state = ap (λ (v : Shelf). record { inflation = l; shelf = v; stamp = suc t }) h; reply = g }

-- replies to a miss are the same where the evicted are
same_missed : (q : Request) (o : Outcome) (gs hs : List Gone) → map bare gs ≡ map bare hs → plain (missed q gs o) ≡ plain (missed q hs o)
same_missed q o gs hs e = ap (λ (k : List Gone). record { dropped = none; evicted = k; outcome = o; size = q.size; cost = q.cost }) e

module _ (c : Settings) (l : ℕ) (s : Shelf) (t : ℕ) (q : Request) where
  settle_credit : (x : Cleared) (y : Drained) → Agree x y → (a b : Bool) → a ≡ b → Same (settle l (map (raise l) s) t q x a) (settle_c s t q y b)
  settle_credit x y h a true e = rw e (same_served l _ t s _ _ refl refl)
  settle_credit x y h a false e = rw e (same_served x.inflation x.shelf t y.shelf _ _ h.shelf (same_missed q Admitted x.taken y.taken h.taken))

  admit_credit : (p : Policy) → Same (admit p c l (map (raise l) s) t q) (admit_c p c s t q)
  unfolding admit admit_c
  admit_credit gds =
      let e : Wanted = beside q.size in
      let x : Cleared = clear c e (length s) l (map (raise l) s) in
      let y : Drained = drain c e (length s) s in
      let a : Agree x y = clear_drain c e (length s) l s in
      let w : Slot = credited q.size q.cost 1 t in
      rw (length-map s (raise l))
      (same_served x.inflation _ t (set y.shelf q.file w) _ _ (rw a.shelf (raise_set x.inflation y.shelf q.file w))
      (same_missed q Admitted x.taken y.taken a.taken))
  admit_credit gdsf =
      let w : Slot = credited q.size q.cost 1 t in
      let u : Shelf = set s q.file w in
      let x : Cleared = clear c among (length s) l (map (raise l) u) in
      let y : Drained = drain c among (length s) u in
      let a : Agree x y = clear_drain c among (length s) l u in
      rw (length-map s (raise l), raise_set l s q.file w)
      (settle_credit x y a (goes q.file x.taken) (goes q.file y.taken) (goes_same q.file x.taken y.taken a.taken))

  miss_credit : (p : Policy) (b : Bool)
      → Same (pick b (served l (map (raise l) s) t (missed q [] (Passed TooBig))) (admit p c l (map (raise l) s) t q))
      (pick b (paid s t (missed q [] (Passed TooBig))) (admit_c p c s t q))
  miss_credit p true = same_served l _ t s _ _ refl refl
  miss_credit p false = admit_credit p

  meet_credit : (p : Policy) (x : Slot) → Same (meet p c l (map (raise l) s) t q (raise l x)) (meet_c p c s t q x)
  meet_credit p (kept r) = same_served l _ t (set s q.file (credited r.size r.cost (again p r.freq) t)) _ _ (raise_set l s q.file _) refl
  meet_credit p none = miss_credit p (ltb c.capacity q.size)

-- the old copy goes from both, told alike but for the key
bare_raise : (l : ℕ) (x : Slot) → bare_copy (raise l x) ≡ bare_copy x
bare_raise l none = refl
bare_raise l (kept r) = refl

same_dropping : (l : ℕ) (x : Slot) (y : Served State) (z : Served Ledger) → Same y z → Same (dropping (raise l x) y) (dropping x z)
same_dropping l x y z h =
    let a = h.reply in
    record { state = h.state; reply = λ i. record { dropped = bare_raise l x i; evicted = (a i).evicted; outcome = (a i).outcome; size = (a i).size; cost = (a i).cost } }

step_credit : (p : Policy) (c : Settings) (l : ℕ) (d : Ledger) (q : Request) → Same (step p c (above l d) q) (step_c p c d q)
unfolding step step_c
step_credit p c l d q =
    let x : Slot = old_copy q.size (get_or d.shelf q.file none) in
    let s : Shelf = drop_old q.file x d.shelf in
    let there = get_or-map (raise l) d.shelf q.file none in
    let old = old_raise l q.size (get_or d.shelf q.file none) in
    rw (there, old, drop_raise l q.file d.shelf x, get_or-map (raise l) s q.file none)
    (same_dropping l x _ _ (meet_credit c l s d.stamp (resolved q) p (get_or s q.file none)))

-- ---- a run

record SameRun (x : Run State) (y : Run Ledger) : Type 0 where
  state : x.state ≡ above x.state.inflation y.state
  replies : map plain x.replies ≡ map plain y.replies

run_credit : (p : Policy) (c : Settings) (l : ℕ) (d : Ledger) (qs : List Request) → SameRun (run (step p c) (above l d) qs) (run (step_c p c) d qs)
unfolding run
run_credit p c l d [] = record { state = refl; replies = refl }
run_credit p c l d (q ∷ qs) =
    let a : Same (step p c (above l d) q) (step_c p c d q) = step_credit p c l d q in
    let k : ℕ = (step p c (above l d) q).state.inflation in
    let h : SameRun (run (step p c) (above k (step_c p c d q).state) qs) (run (step_c p c) (step_c p c d q).state qs) = run_credit p c k (step_c p c d q).state qs in
    rw a.state
    (record { state = h.state; replies = (λ i. a.reply i ∷ h.replies i) })

pub same_as_credit : (p : Policy) (c : Settings) (qs : List Request) → SameAsCredit (run (step p c) (fresh c) qs) (run (step_c p c) (fresh_c c) qs)
same_as_credit p c qs =
    let x : Run State = run (step p c) (fresh c) qs in
    let h : SameRun x (run (step_c p c) (fresh_c c) qs) = rw (raise_none 0 c.catalogue) at (run_credit p c 0 (fresh_c c) qs) in
    record { replies = h.replies; credits = ap (λ (st : State). map (less x.state.inflation) st.shelf) h.state ∙ less_raise x.state.inflation _ }
