-- No sheet is longer than its bound. Assumes nothing.
use Prim.Native.Nat.{ℕ, zero, suc, ◌+◌, ◌*◌, ◌/◌, ◌%◌, ◌^◌, ◌≤◌, ◌<◌}
use mathlib.Core.Path.{◌≡◌, refl, ap}
use mathlib.Core.Bool.{Bool, true, false}
use mathlib.Core.List.{List, [], ◌∷◌, ◌++◌}
use mathlib.Core.Logic.{◌⊎◌, inl, inr}
use native.Mathlib.Omega.{arith}
use native.Mathlib.Nat.{pow-suc}
use borrow.Author.Tests.{leb-true}
use lib.Dec.{leb, eqb}
use lib.ListN.{length, length-append}
use Rattle.amounts.specs.Limits.{pick, catalogue_most}
use Rattle.amounts.specs.declared.settings.Settings.{Settings}
use Rattle.amounts.proofs.Tests.{below}
use Rattle.card.specs.Card.{card_of}
use Rattle.trace.specs.Reading.{Read, good, stop, read_of, Opened, opened, shut, settings_of}
use Rattle.trace.proofs.Taking.{five, five_after}
use Rattle.trace.proofs.RoundTrip.{part_ranged}
use Rattle.tables.specs.declared.tally.Tally.{Tally}
use Rattle.lines.specs.Decimal.{decimal}
use Rattle.lines.specs.Words as word
use Rattle.lines.specs.Words.{space, line_feed}
use Rattle.layout.specs.Sheet.{input_most, sheet_most, ran_tally, ran_events, of_read, in_own, of_file, sheet_of}
use Rattle.lines.specs.Lines.{item, refused_line, kind_word, event_line, event_lines, page}
use Rattle.layout.specs.Steps.{Given}
use Rattle.lines.proofs.Digits.{decimal_short, decimal_last, longer_decimal}
use Rattle.layout.proofs.Running.{few_requests, few_events}

-- ---- lines

item_length : (w : List ℕ) (n end : ℕ) → length (item w n end) ≡ length w + length (decimal n) + 2
unfolding item
item_length w n end = omega (arith, length-append w (space ∷ (decimal n ++ (end ∷ []))), length-append (decimal n) (end ∷ []))

item_short : (w : List ℕ) (n end m : ℕ) → length w ≤ m → length (item w n end) ≤ m + 22
item_short w n end m h = omega (arith, item_length w n end, decimal_short n)

pub refused_short : (n : ℕ) → length (refused_line n) ≤ 29
refused_short n = item_short word.refused n line_feed 7 (omega arith)

small_decimal : (k n : ℕ) → n < 10 ^ suc k → n < 10 ^ 20 → length (decimal n) ≤ suc k
small_decimal zero n h l = omega (arith, ap length (decimal_last n h))
small_decimal (suc k) n h l = go (below n 10) (small_decimal k (n / 10))
  where
    go : (n < 10) ⊎ (10 ≤ n) → (n / 10 < 10 ^ suc k → n / 10 < 10 ^ 20 → length (decimal (n / 10)) ≤ suc k) → length (decimal n) ≤ suc (suc k)
    go (inl b) ih = omega (arith, ap length (decimal_last n b))
    go (inr b) ih = let h' : n < 10 ^ suc k * 10 = rw pow-suc at h in omega (arith, longer_decimal n b l, ih (omega arith) (omega arith))

kind_short : (k : ℕ) → length (kind_word k) ≤ 5
unfolding kind_word
kind_short k = go (eqb k 1) (eqb k 2) (eqb k 3) (eqb k 4) (eqb k 6)
  where
    go : (a b c d e : Bool) → length (pick a word.hit (pick b word.admit (pick c word.big (pick d word.low (pick e word.stale word.evict))))) ≤ 5
    go true b c d e = omega arith
    go false true c d e = omega arith
    go false false true d e = omega arith
    go false false false true e = omega arith
    go false false false false true = omega arith
    go false false false false false = omega arith

event_short : (e : ℕ) → length (event_line e) ≤ 12
event_short e =
    omega (arith, item_length (kind_word (e / catalogue_most)) (e % catalogue_most) line_feed, kind_short (e / catalogue_most), small_decimal 4 (e % catalogue_most) (omega arith) (omega arith))

events_short : (es : List ℕ) → length (event_lines es) ≤ 12 * length es
events_short [] = omega arith
events_short (e ∷ es) = omega (arith, length-append (event_line e) (event_lines es), event_short e, events_short es)

page_short : (a : Tally) (es : List ℕ) → length (page a es) ≤ 12 * length es + 413
unfolding page
page_short a es =
    simp length-append
    (omega (
      arith,
      events_short es,
      item_short word.unit a.settings.unit.0 line_feed 4 (omega arith),
      item_short word.requests a.requests space 8 (omega arith),
      item_short word.hits a.hits space 4 (omega arith),
      item_short word.admitted a.admitted space 8 (omega arith),
      item_short word.passed a.passed space 6 (omega arith),
      item_short word.evicted a.evicted space 7 (omega arith),
      item_short word.dropped a.dropped line_feed 7 (omega arith),
      item_short word.bytes a.bytes_asked.0 space 5 (omega arith),
      item_short word.hitbytes a.hit_bytes.0 line_feed 8 (omega arith),
      item_short word.cost a.cost_asked.0 space 4 (omega arith),
      item_short word.hitcost a.hit_cost.0 line_feed 7 (omega arith),
      item_short word.lifts a.lifts space 5 (omega arith),
      item_short word.inflation a.inflation.0 space 1 (omega arith),
      item_short word.used a.bytes_kept.0 space 4 (omega arith),
      item_short word.files a.files_kept line_feed 5 (omega arith),
    ))

-- ---- the sheet of requests that were read

pub read_fits : (s : Settings) (part : List ℕ) → Given s part → (z : Read) → read_of (length part) s.catalogue.0 part ≡ z → length (of_read s z) ≤ sheet_most
read_fits s part g (stop r) e = omega (arith, refused_short (card_of r).number)
read_fits s part g (good qs) e =
    let ranged = part_ranged (length part) s.catalogue.0 qs part e in
    omega (arith, page_short (ran_tally s qs) (ran_events s qs), few_events s g.ranged qs ranged, few_requests (length part) s.catalogue.0 part qs e, g.short)

-- ---- the bytes after the settings are fewer

opened_given : (trace : List ℕ) (s : Settings) (rest : List ℕ) → length trace ≤ input_most → settings_of (length trace) trace ≡ opened s rest → Given s rest
opened_given trace s rest h e =
    let f = five (length trace) trace s rest e in
    let p = five_after f in
    record {
      ranged = f.in_range_lem;
      short = omega (arith, h, ap length p.same, length-append p.front rest);
    }

-- ---- every sheet

-- the sheet of any list of bytes is no longer than the bound
pub sheet_fits : (trace : List ℕ) → length (sheet_of trace) ≤ sheet_most
unfolding sheet_of
sheet_fits trace = go (leb (length trace) input_most) refl
  where
    held : (s : Settings) (rest : List ℕ) (t : Bool) → Given s rest → length (pick t (of_read s (read_of (length rest) s.catalogue.0 rest)) (refused_line 2)) ≤ sheet_most
    held s rest true g = read_fits s rest g _ refl
    held s rest false g = omega (arith, refused_short 2)

    file : (x : Opened) → settings_of (length trace) trace ≡ x → length trace ≤ input_most → length (of_file x) ≤ sheet_most
    file (shut r) e h = omega (arith, refused_short (card_of r).number)
    file (opened s rest) e h = held s rest (in_own s) (opened_given trace s rest h e)

    go : (t : Bool) → leb (length trace) input_most ≡ t → length (pick t (of_file (settings_of (length trace) trace)) (refused_line 9)) ≤ sheet_most
    go true e = file (settings_of (length trace) trace) refl (leb-true (length trace) input_most e)
    go false e = omega (arith, refused_short 9)
