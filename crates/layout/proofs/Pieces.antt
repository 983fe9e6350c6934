-- Sheets of document 01 and of a recut, computed from the definitions. Assumes nothing.
use Prim.Native.Nat.{ℕ}
use mathlib.Core.Path.{◌≡◌, refl}
use mathlib.Core.List.{List, [], ◌∷◌, ◌++◌}
use Rattle.amounts.specs.Limits.{one_to}
use Rattle.amounts.specs.Worth.{worth_of, product_of, packets, in_force}
use Rattle.amounts.specs.Order.{lower_of}
use Rattle.method.specs.Shelf.{sum, lowest}
use Rattle.method.specs.Method.{run, step, clear, admit}
use Rattle.method.specs.Events.{events}
use Rattle.method.specs.Totals.{totals}
use Rattle.method.specs.Whole.{lifted, lifts_of}
use Rattle.trace.specs.Reading.{read_of, settings_of}
use Rattle.trace.proofs.Pieces.{sheet}
use Rattle.lines.specs.Decimal.{decimal}
use Rattle.lines.specs.Words.{ascii}
use Rattle.layout.specs.Sheet.{sheet_of}
use Rattle.lines.specs.Lines.{item, kind_word, page}

-- document 01, "The sheet": what is printed for the hex bytes; document 02, ticket 2: `dropped` ends the line of the counts; ticket 5: the last line begins with the lifts
abbrev printed : List ℕ
printed =
    ascii "unit 7\n"
    ++ ascii "admit 1\n"
    ++ ascii "admit 2\n"
    ++ ascii "hit 1\n"
    ++ ascii "evict 2\n"
    ++ ascii "admit 3\n"
    ++ ascii "evict 1\n"
    ++ ascii "admit 2\n"
    ++ ascii "big 4\n"
    ++ ascii "requests 6 hits 1 admitted 4 passed 1 evicted 2 dropped 0\n"
    ++ ascii "bytes 336 hitbytes 64\n"
    ++ ascii "cost 12 hitcost 4\n"
    ++ ascii "lifts 0 L 1048576 used 48 files 2\n"

pub example : sheet_of sheet ≡ printed
unfolding worth_of product_of packets in_force lower_of one_to run lifted lifts_of events totals step admit clear lowest sum read_of settings_of decimal item kind_word page sheet_of
example = refl

-- document 02, ticket 2: the trace of the recut among the bench pieces; file 1 is cut anew, so `stale 1` stands before `evict 2`
abbrev recut_trace : List ℕ
recut_trace = 4 ∷ 1 ∷ 100 ∷ 4 ∷ 4 ∷ 1 ∷ 64 ∷ 4 ∷ 2 ∷ 32 ∷ 1 ∷ 1 ∷ 80 ∷ 5 ∷ 1 ∷ 80 ∷ 9 ∷ []

-- its sheet; the hit counts the kept cost, 5
abbrev recut_printed : List ℕ
recut_printed =
    ascii "unit 4\n"
    ++ ascii "admit 1\n"
    ++ ascii "admit 2\n"
    ++ ascii "stale 1\n"
    ++ ascii "evict 2\n"
    ++ ascii "admit 1\n"
    ++ ascii "hit 1\n"
    ++ ascii "requests 4 hits 1 admitted 3 passed 0 evicted 1 dropped 1\n"
    ++ ascii "bytes 256 hitbytes 80\n"
    ++ ascii "cost 15 hitcost 5\n"
    ++ ascii "lifts 0 L 524288 used 80 files 1\n"

pub recut : sheet_of recut_trace ≡ recut_printed
unfolding worth_of product_of packets in_force lower_of one_to run lifted lifts_of events totals step admit clear lowest sum read_of settings_of decimal item kind_word page sheet_of
recut = refl

-- a needless 0 in the unit; no bytes; policy 3 before 513 places; 513 places before a file out of range; a file out of range; a size of 0 before a number cut short
pub refusals : (sheet_of (0x80 ∷ 0x00 ∷ []) ≡ ascii "refused 3\n")
    × (sheet_of [] ≡ ascii "refused 3\n")
    × (sheet_of (7 ∷ 3 ∷ 100 ∷ 0x81 ∷ 0x04 ∷ 16 ∷ []) ≡ ascii "refused 1\n")
    × (sheet_of (7 ∷ 1 ∷ 100 ∷ 0x81 ∷ 0x04 ∷ 16 ∷ 99 ∷ []) ≡ ascii "refused 2\n")
    × (sheet_of (7 ∷ 1 ∷ 100 ∷ 8 ∷ 16 ∷ 16 ∷ 1 ∷ 1 ∷ []) ≡ ascii "refused 4\n")
    × (sheet_of (7 ∷ 1 ∷ 100 ∷ 8 ∷ 16 ∷ 1 ∷ 0 ∷ 0x80 ∷ []) ≡ ascii "refused 4\n")
unfolding one_to read_of settings_of decimal item sheet_of
refusals = (refl, refl, refl, refl, refl, refl)
