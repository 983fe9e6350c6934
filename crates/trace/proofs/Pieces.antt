-- Worked examples of document 01, computed from the definitions. Assumes nothing.
use Prim.Native.Nat.{ℕ}
use mathlib.Core.Path.{◌≡◌, refl}
use mathlib.Core.List.{List, [], ◌∷◌}
use Rattle.card.specs.Card.{done, refused}
use Rattle.amounts.specs.Limits.{one_to}
use Rattle.trace.specs.Number.{num, bad, decode}
use Rattle.trace.specs.Reading.{read_of, settings_of, part_read, file_read, rows}
use Rattle.trace.specs.Fields.{is_request}
use Rattle.trace.specs.Writing.{part_put, bytes}
use Rattle.trace.specs.Cards.{part_answer, file_answer, put_card}
use Rattle.trace.specs.Promise.{files_of, sizes_of, costs_of}

-- document 01, "Bench pieces": `80 00` is refused 3; `00` is 0
pub pieces : (decode (0x80 ∷ 0x00 ∷ []) ≡ bad) × (decode (0x00 ∷ []) ≡ num 0 [])
pieces = (refl, refl)

-- a seventh group
pub seventh : decode (0x80 ∷ 0x80 ∷ 0x80 ∷ 0x80 ∷ 0x80 ∷ 0x80 ∷ 0x01 ∷ []) ≡ bad
seventh = refl

-- document 01, "The sheet": the file of the example
abbrev pub sheet : List ℕ
sheet = 0x07 ∷ 0x01 ∷ 0x64 ∷ 0x08 ∷ 0x10 ∷ 0x01 ∷ 0x40 ∷ 0x04 ∷ 0x02 ∷ 0x20 ∷ 0x01 ∷ 0x01 ∷ 0x40 ∷ 0x04 ∷ 0x03 ∷ 0x10 ∷ 0x01 ∷ 0x02 ∷ 0x20 ∷ 0x01 ∷ 0x04 ∷ 0x80 ∷ 0x01 ∷ 0x01 ∷ []

pub sheet_read : (file_answer sheet 6 ≡ done (7 ∷ 1 ∷ 100 ∷ 8 ∷ 16 ∷ 6 ∷ []))
    × (files_of (rows (file_read sheet 6)) ≡ 1 ∷ 2 ∷ 1 ∷ 3 ∷ 2 ∷ 4 ∷ [])
    × (sizes_of (rows (file_read sheet 6)) ≡ 64 ∷ 32 ∷ 64 ∷ 16 ∷ 32 ∷ 128 ∷ [])
    × (costs_of (rows (file_read sheet 6)) ≡ 4 ∷ 1 ∷ 4 ∷ 1 ∷ 1 ∷ 1 ∷ [])
unfolding settings_of file_read read_of one_to
sheet_read = (refl, refl, refl, refl)

-- the refusals of a further part: a needless 0, a number cut short, a number missing, a file out of range, a size of 0, no room
pub part_refusals : (part_answer 16 (1 ∷ 0x80 ∷ 0x00 ∷ 4 ∷ []) 9 ≡ refused 3 (1 ∷ []))
    × (part_answer 16 (1 ∷ 64 ∷ 0x80 ∷ []) 9 ≡ refused 3 (2 ∷ []))
    × (part_answer 16 (1 ∷ 64 ∷ []) 9 ≡ refused 3 (2 ∷ []))
    × (part_answer 16 (16 ∷ 1 ∷ 1 ∷ []) 9 ≡ refused 4 (0 ∷ []))
    × (part_answer 16 (1 ∷ 0 ∷ 0x80 ∷ []) 9 ≡ refused 4 (1 ∷ []))
    × (part_answer 16 (1 ∷ 1 ∷ 1 ∷ []) 0 ≡ refused 6 [])
    × (part_answer 0 (1 ∷ 1 ∷ 1 ∷ []) 9 ≡ refused 1 [])
unfolding part_read read_of one_to
part_refusals = (refl, refl, refl, refl, refl, refl, refl)

-- the refusals of a file: an empty file, policy 3 before a number cut short, a needless 0 in the capacity, a request's offset counted from the first byte
pub file_refusals : (file_answer [] 9 ≡ refused 3 (0 ∷ []))
    × (file_answer (7 ∷ 3 ∷ 0x80 ∷ []) 9 ≡ refused 1 [])
    × (file_answer (7 ∷ 1 ∷ 0x80 ∷ 0 ∷ []) 9 ≡ refused 3 (2 ∷ []))
    × (file_answer (7 ∷ 1 ∷ 100 ∷ 8 ∷ 16 ∷ 1 ∷ 0 ∷ []) 9 ≡ refused 4 (6 ∷ []))
unfolding settings_of file_read read_of one_to
file_refusals = (refl, refl, refl, refl)

-- the refusals of a writer, in their order: 1, 2, 4 with the index, 6; and what it writes
pub put_refusals : (put_card (part_put 0 0 (1 ∷ []) [] []) ≡ refused 1 [])
    × (put_card (part_put 16 0 (16 ∷ []) [] []) ≡ refused 2 [])
    × (put_card (part_put 16 0 (1 ∷ 16 ∷ []) (1 ∷ 1 ∷ []) (0 ∷ 0 ∷ [])) ≡ refused 4 (1 ∷ []))
    × (put_card (part_put 16 3 (1 ∷ []) (128 ∷ []) (0 ∷ [])) ≡ refused 6 [])
    × (part_put 16 4 (1 ∷ []) (128 ∷ 9 ∷ []) (0 ∷ []) ≡ bytes (1 ∷ 0x80 ∷ 1 ∷ 0 ∷ []))
unfolding part_put is_request one_to
put_refusals = (refl, refl, refl, refl, refl)
