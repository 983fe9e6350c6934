-- What is promised of a run from a fresh start, after every request (demand 3). Assumes nothing.
use Rattle.std.specs.Prelude.{◌≡◌, true, List, map, ℕ, ◌+◌, ◌*◌, ◌≤◌, ◌<◌, length, get_or}
use Rattle.amounts.specs.Limits.{is_capacity, is_places, is_catalogue, frequency_most, lift, word}
use Rattle.amounts.specs.Worth.{Valued, worth_most}
use Rattle.amounts.specs.Requests.{Request, AllRanged}
use Rattle.method.specs.Shelf.{Kept, Slot, none, kept, Shelf, sum, bytes, files, product, Each}
use Rattle.method.specs.Method.{Policy, gds, gdsf, Settings, Gone, Reply, State, Run, run, step, fresh}
use Rattle.method.specs.Events.{events}
use Rattle.method.specs.Totals.{totals, zeros, Agreed}
use Rattle.method.specs.Whole.{lifts_of}
use Rattle.method.specs.Credit.{Ledger, less, step_c, fresh_c}

-- document 01, "Numbers": capacity, places and catalogue in range
pub record Set (c : Settings) : Type 0 where
  pub capacity : is_capacity c.capacity ≡ true
  pub places : is_places c.places ≡ true
  pub catalogue : is_catalogue c.catalogue ≡ true

-- document 01, "Lowest": no two kept files share a stamp
abbrev pub Apart : Shelf → Type 0
Apart s = (i j : ℕ) (r q : Kept) → get_or s i none ≡ kept r → get_or s j none ≡ kept q → r.stamp ≡ q.stamp → i ≡ j

-- document 01, "Tables and the tally": exactly 1 for policy 1
abbrev pub Once : Policy → ℕ → Type 0
Once gds f = f ≡ 1
Once gdsf f = Unit {0}

-- a record in range
pub record Fine (p : Policy) (r : Kept) : Type 0 where
  pub valued : Valued r.size r.cost
  pub freq : 1 ≤ r.freq
  -- document 02, ticket 5: where frequency stops rising
  pub seldom : r.freq ≤ frequency_most
  pub once : Once p r.freq

-- what holds at inflation l, shelf s and stamp t after n requests
pub record Sound (p : Policy) (c : Settings) (l : ℕ) (s : Shelf) (t n : ℕ) : Type 0 where
  -- a slot for each file number: none is kept twice
  pub slots : length s ≡ c.catalogue
  -- files fit
  pub bytes : bytes s ≤ c.capacity
  pub files : files s ≤ c.places
  pub fine : Each (Fine p) s
  pub stamps : Each (λ r. r.stamp < t) s
  pub apart : Apart s
  pub freqs : sum (λ r. r.freq) s ≤ n
  -- keys lie between inflation and inflation plus the product
  pub keys : Each (λ r. (l ≤ r.key) × (r.key ≤ l + product r)) s
  pub total : l + sum product s ≤ n * worth_most

abbrev pub SoundAt : Policy → Settings → State → ℕ → Type 0
SoundAt p c st n = Sound p c st.inflation st.shelf st.stamp n

-- nothing overflows: less the lifts, inflation stays below 2 to the 61st (document 02, ticket 5) and every key below the word
pub record Small (lifts : ℕ) (st : State) : Type 0 where
  pub taken : lifts * lift ≤ st.inflation
  pub inflation : st.inflation < (lifts + 2) * lift
  pub keys : Each (λ r. r.key < lifts * lift + word) st.shelf

-- what was kept of a file but for the key, which is a credit in the plain method
abbrev pub keyless : Kept → Kept
keyless r = record { size = r.size; cost = r.cost; freq = r.freq; key = 0; stamp = r.stamp }

-- what an eviction says but for the key
abbrev pub bare : Gone → Gone
bare g = record { file = g.file; was = keyless g.was }

-- what an old copy says but for the key
abbrev pub bare_copy : Slot → Slot
bare_copy none = none
bare_copy (kept r) = kept (keyless r)

abbrev pub plain : Reply → Reply
plain a = record { dropped = bare_copy a.dropped; evicted = map bare a.evicted; outcome = a.outcome; size = a.size; cost = a.cost }

-- the same outcomes, the same old copies dropped, and the same files evicted in the same order; and each key less the inflation is the credit
pub record SameAsCredit (x : Run State) (y : Run Ledger) : Type 0 where
  pub replies : map plain x.replies ≡ map plain y.replies
  pub credits : map (less x.state.inflation) x.state.shelf ≡ y.state.shelf

-- demand 3: x is the run of the method over the requests qs from a fresh start, y that of the plain method
pub record Held (p : Policy) (c : Settings) (qs : List Request) (x : Run State) (y : Run Ledger) : Type 0 where
  pub sound : SoundAt p c x.state (length qs)
  pub stamp : x.state.stamp ≡ length qs
  pub small : Small (lifts_of (step p c) 0 (fresh c) qs) x.state
  pub credit : SameAsCredit x y
  pub agreed : Agreed (files x.state.shelf) (totals zeros x.replies)
  pub counted : (totals zeros x.replies).requests ≡ length qs
  pub few : length (events qs x.replies) ≤ 2 * length qs

-- for every policy, settings in range and requests in range: qs is all that were served so far
abbrev pub Demand3 : Type 0
Demand3 =
    (p : Policy) (c : Settings) (qs : List Request) → Set c → AllRanged c.catalogue qs
    → Held p c qs (run (step p c) (fresh c) qs) (run (step_c p c) (fresh_c c) qs)
