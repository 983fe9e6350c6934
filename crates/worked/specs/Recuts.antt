-- Worked recuts: requests for a kept file in another size (document 02, ticket 2), as a single statement over one list. Assumes nothing.
use Rattle.std.specs.Prelude.{List, [], ◌∷◌, ◌++◌, map, ℕ}
use Rattle.amounts.specs.Requests.{Request}
use Rattle.method.specs.Shelf.{Slot, none, kept}
use Rattle.method.specs.Method.{Policy, gds, gdsf, Settings, Reply, State, Run, run, fresh, step}
use Rattle.method.specs.Events.{events}
use Rattle.method.specs.Totals.{totals, zeros}
use Rattle.worked.specs.Pieces.{totals_of}

-- 100 bytes, two places, and the files 0, 1 and 2
abbrev store : Settings
store = record { capacity = 100; places = 2; catalogue = 3 }

-- file, size and cost
abbrev ask : ℕ → ℕ → ℕ → Request
ask file size cost = record { file = file; size = size; cost = cost }

-- what is kept in a slot, or was dropped: size, cost, frequency, key, stamp
abbrev slot_row : Slot → List ℕ
slot_row none = []
slot_row (kept r) = r.size ∷ r.cost ∷ r.freq ∷ r.key ∷ r.stamp ∷ []

-- the events; the totals; inflation; what is kept of files 0, 1 and 2 afterwards; then what each request dropped
abbrev rows_of : List Request → Run State → List (List ℕ)
rows_of qs r =
    events qs r.replies ∷ totals_of (totals zeros r.replies) ∷ (r.state.inflation ∷ []) ∷ map slot_row r.state.shelf
    ++ map (λ (a : Reply). slot_row a.dropped) r.replies

abbrev ran : Policy → List Request → List (List ℕ)
ran p qs = rows_of qs (run (step p store) (fresh store) qs)

-- ---- The requests

-- file 1 is kept, asked for in another size, and then in that size again; the last request names cost 9, but cost 1 is kept
abbrev repeated : List Request
repeated = ask 1 64 4 ∷ ask 1 32 1 ∷ ask 1 32 9 ∷ []

-- files 1 and 2 are kept; the recut of file 1 does not fit beside file 2
abbrev larger : List Request
larger = ask 1 64 4 ∷ ask 2 32 1 ∷ ask 1 80 5 ∷ []

-- the recut is above the capacity
abbrev too_big : List Request
too_big = ask 1 64 4 ∷ ask 1 128 8 ∷ []

-- files 2 and 1 are kept; the recut of file 1 does not fit beside file 2 and is worth less
abbrev worth_less : List Request
worth_less = ask 2 64 16 ∷ ask 1 32 4 ∷ ask 1 64 1 ∷ []

abbrev pub computed : List (List ℕ)
computed =
    ran gds repeated ++ ran gdsf repeated ++ ran gds larger ++ ran gdsf larger ++ ran gds too_big ++ ran gdsf too_big ++ ran gdsf worth_less

-- ---- What is due; an event is kind × 32,768 + file, so 196609 is `stale 1`, 65537 `admit 1` and 32769 `hit 1`

-- the old copy goes and L stays; the hit counts 32 bytes and the kept cost
abbrev repeated_due : List (List ℕ)
repeated_due =
    (65537 ∷ 196609 ∷ 65537 ∷ 32769 ∷ [])
    ∷ (3 ∷ 1 ∷ 2 ∷ 0 ∷ 0 ∷ 1 ∷ 128 ∷ 32 ∷ 6 ∷ 1 ∷ [])
    ∷ (0 ∷ [])
    ∷ []

-- what the second request dropped: 64 bytes at cost 4, of worth 1,048,576
abbrev old_copy : List ℕ
old_copy = 64 ∷ 4 ∷ 1 ∷ 1048576 ∷ 0 ∷ []

-- policy 1: the key is the worth of 32 bytes at cost 1
abbrev repeated₁ : List (List ℕ)
repeated₁ = repeated_due ++ [] ∷ (32 ∷ 1 ∷ 1 ∷ 524288 ∷ 2 ∷ []) ∷ [] ∷ [] ∷ old_copy ∷ [] ∷ []

-- policy 2: the frequency began anew, so the hit makes it 2, and the key twice that worth
abbrev repeated₂ : List (List ℕ)
repeated₂ = repeated_due ++ [] ∷ (32 ∷ 1 ∷ 2 ∷ 1048576 ∷ 2 ∷ []) ∷ [] ∷ [] ∷ old_copy ∷ [] ∷ []

-- `stale 1` comes before `evict 2` (163842); L is the key of file 2, which was evicted, and not that of the old copy
abbrev larger_due : List (List ℕ)
larger_due =
    (65537 ∷ 65538 ∷ 196609 ∷ 163842 ∷ 65537 ∷ [])
    ∷ (3 ∷ 0 ∷ 3 ∷ 0 ∷ 1 ∷ 1 ∷ 176 ∷ 0 ∷ 10 ∷ 0 ∷ [])
    ∷ (524288 ∷ [])
    ∷ []

-- policy 1: the key is L after the eviction and the worth of 80 bytes at cost 5
abbrev larger₁ : List (List ℕ)
larger₁ = larger_due ++ [] ∷ (80 ∷ 5 ∷ 1 ∷ 1572864 ∷ 2 ∷ []) ∷ [] ∷ [] ∷ [] ∷ old_copy ∷ []

-- policy 2: the key is L before it, 0, and that worth
abbrev larger₂ : List (List ℕ)
larger₂ = larger_due ++ [] ∷ (80 ∷ 5 ∷ 1 ∷ 1048576 ∷ 2 ∷ []) ∷ [] ∷ [] ∷ [] ∷ old_copy ∷ []

-- `stale 1`, then `big 1` (98305): nothing is kept under either policy
abbrev too_big_due : List (List ℕ)
too_big_due =
    (65537 ∷ 196609 ∷ 98305 ∷ [])
    ∷ (2 ∷ 0 ∷ 1 ∷ 1 ∷ 0 ∷ 1 ∷ 192 ∷ 0 ∷ 12 ∷ 0 ∷ [])
    ∷ (0 ∷ [])
    ∷ [] ∷ [] ∷ [] ∷ [] ∷ old_copy ∷ []

-- policy 2: `stale 1`, then `low 1` (131073): file 2 stays as it was, and nothing of file 1 is kept
abbrev worth_less₂ : List (List ℕ)
worth_less₂ =
    (65538 ∷ 65537 ∷ 196609 ∷ 131073 ∷ [])
    ∷ (3 ∷ 0 ∷ 2 ∷ 1 ∷ 0 ∷ 1 ∷ 160 ∷ 0 ∷ 21 ∷ 0 ∷ [])
    ∷ (0 ∷ [])
    ∷ [] ∷ [] ∷ (64 ∷ 16 ∷ 1 ∷ 4194304 ∷ 0 ∷ [])
    ∷ [] ∷ [] ∷ (32 ∷ 4 ∷ 1 ∷ 2097152 ∷ 1 ∷ [])
    ∷ []

abbrev pub expected : List (List ℕ)
expected = repeated₁ ++ repeated₂ ++ larger₁ ++ larger₂ ++ too_big_due ++ too_big_due ++ worth_less₂
