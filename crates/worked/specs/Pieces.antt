-- The bench pieces of document 01 that are marked P, and the product of document 02, ticket 6, as a single statement over one list. Assumes nothing.
use Rattle.std.specs.Prelude.{List, [], ◌∷◌, ◌++◌, map, ℕ, length, replicate}
use Rattle.amounts.specs.Limits.{frequency_most}
use Rattle.amounts.specs.Worth.{worth_of, product_of, in_force}
use Rattle.amounts.specs.Requests.{Request}
use Rattle.card.specs.Card.{Card}
use Rattle.method.specs.Shelf.{Slot, none, kept, bytes, files}
use Rattle.method.specs.Method.{Policy, gdsf, policy_of, Settings, Gone, Reply, State, Run, run, fresh, step}
use Rattle.method.specs.Events.{events}
use Rattle.method.specs.Totals.{Totals, totals, zeros}
use Rattle.trace.specs.Reading.{Opened, opened, shut, settings_of, file_read, rows}
use Rattle.trace.specs.Cards.{file_answer}

-- document 01, "The sheet": the hex bytes of the example
abbrev pub trace : List ℕ
trace =
    0x07 ∷ 0x01 ∷ 0x64 ∷ 0x08 ∷ 0x10 ∷ 0x01 ∷ 0x40 ∷ 0x04 ∷ 0x02 ∷ 0x20 ∷ 0x01 ∷ 0x01 ∷ 0x40 ∷ 0x04 ∷ 0x03 ∷ 0x10 ∷ 0x01 ∷ 0x02 ∷ 0x20 ∷ 0x01 ∷ 0x04 ∷ 0x80 ∷ 0x01 ∷ 0x01 ∷ []

-- its settings, as they are read
abbrev settings_in : Opened → Settings
settings_in (opened s rest) = record { capacity = s.capacity.0; places = s.places.0; catalogue = s.catalogue.0 }
settings_in (shut r) = record { capacity = 0; places = 0; catalogue = 0 }

abbrev policy_in : Opened → ℕ
policy_in (opened s rest) = s.policy.0
policy_in (shut r) = 0

abbrev opening : Opened
opening = settings_of (length trace) trace

abbrev bench : Settings
bench = settings_in opening

-- its requests, as they are read
abbrev pub asked : List Request
asked = rows (file_read trace 6)

abbrev run_of : Policy → Run State
run_of p = run (step p bench) (fresh bench) asked

-- document 01, "Tables and the tally", and document 02, ticket 2: the totals, in the order of the sheet
abbrev pub totals_of : Totals → List ℕ
totals_of y =
    y.requests ∷ y.hits ∷ y.admitted ∷ y.passed ∷ y.evicted ∷ y.dropped ∷ y.bytes ∷ y.hit_bytes ∷ y.cost ∷ y.hit_cost ∷ []

abbrev key_in : Slot → ℕ
key_in none = 0
key_in (kept r) = r.key

-- the evicted of a reply, each with the key that it had
abbrev gone_keys : List Gone → List ℕ
gone_keys [] = []
gone_keys (g ∷ gs) = g.file ∷ g.was.key ∷ gone_keys gs

-- the events; the totals; inflation, bytes kept, files kept and the key in each slot; then each request's evicted with their keys
abbrev rows_of : Run State → List (List ℕ)
rows_of r =
    events asked r.replies ∷ totals_of (totals zeros r.replies)
    ∷ (r.state.inflation ∷ bytes r.state.shelf ∷ files r.state.shelf ∷ map key_in r.state.shelf)
    ∷ map (λ (a : Reply). gone_keys a.evicted) r.replies

-- a card as its number and its values
abbrev line : Card → List ℕ
line c = c.number ∷ c.values

-- document 01's five pieces in its order, with document 02's product after worth; the first run is under the policy that was read, the second under policy 2
abbrev pub computed : List (List ℕ)
computed =
    (worth_of 3 1 ∷ worth_of 16777215 1 ∷ worth_of 1 65535 ∷ [])
    ∷ (product_of 5 9000000 1 ∷ product_of 1 9000000 1 ∷ product_of frequency_most 1 65535 ∷ [])
    ∷ (in_force 535 0 ∷ in_force 536 0 ∷ in_force 16777215 0 ∷ [])
    ∷ line (file_answer trace 6)
    ∷ rows_of (run_of (policy_of (policy_in opening))) ++ rows_of (run_of gdsf)
    ++ line (file_answer (0x80 ∷ 0x00 ∷ []) 0)
    ∷ line (file_answer (0x00 ∷ 0x01 ∷ 0x64 ∷ 0x08 ∷ 0x10 ∷ []) 0)
    ∷ []

-- document 01, "The sheet": the example's counts, bytes and costs; policy 2's are the same; no request has another size than the kept one
abbrev pub totals_due : List ℕ
totals_due = 6 ∷ 1 ∷ 4 ∷ 1 ∷ 2 ∷ 0 ∷ 336 ∷ 64 ∷ 12 ∷ 4 ∷ []

-- document 01, "Event list": kind × 32,768 + file, so 65537 is `admit 1`, 32769 `hit 1`, 163842 `evict 2`, 98308 `big 4`
abbrev pub expected : List (List ℕ)
expected =
    (5592405 ∷ 1 ∷ 1099494850560 ∷ [])
    ∷ (9 ∷ 1 ∷ 1152902812925952000 ∷ [])
    ∷ (2 ∷ 3 ∷ 31302 ∷ [])
    ∷ (0 ∷ 7 ∷ 1 ∷ 100 ∷ 8 ∷ 16 ∷ 6 ∷ [])
    ∷ (65537 ∷ 65538 ∷ 32769 ∷ 163842 ∷ 65539 ∷ 163841 ∷ 65538 ∷ 98308 ∷ [])
    ∷ totals_due
    ∷ (1048576 ∷ 48 ∷ 2 ∷ 0 ∷ 0 ∷ 1572864 ∷ 1572864 ∷ replicate 12 0)
    ∷ [] ∷ [] ∷ [] ∷ (2 ∷ 524288 ∷ []) ∷ (1 ∷ 1048576 ∷ []) ∷ []
    ∷ (65537 ∷ 65538 ∷ 32769 ∷ 163842 ∷ 65539 ∷ 163843 ∷ 65538 ∷ 98308 ∷ [])
    ∷ totals_due
    ∷ (1048576 ∷ 96 ∷ 2 ∷ 0 ∷ 2097152 ∷ 1048576 ∷ replicate 13 0)
    ∷ [] ∷ [] ∷ [] ∷ (2 ∷ 524288 ∷ []) ∷ (3 ∷ 1048576 ∷ []) ∷ []
    ∷ (3 ∷ 0 ∷ [])
    ∷ (0 ∷ 0 ∷ 1 ∷ 100 ∷ 8 ∷ 16 ∷ 0 ∷ [])
    ∷ []
