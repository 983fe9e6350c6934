-- `writer::lists::write_part` meets its contract. Assumes nothing.
use mathlib.Core.Path.{refl, sym}
use Rattle.std.proofs.lemmas.Result.{err_from_is_err_and}
use Rattle.amounts.proofs.Tests.{told}
use Rattle.trace.proofs.Listing.{judged_short}
use Rattle.trace.proofs.Judging.{part_room, part_setting, part_refused, part_done}
use Rattle.writer.proofs.lists.write_part.Goals as goal

pub returns-then-not-in_range : goal.returns-then-not-in_range
returns-then-not-in_range c = part_setting _ _ _ _ _ (told c.in_range.ensures c.if-not-in_range.true)

pub returns-in_err-rows : goal.returns-in_err-rows
returns-in_err-rows c =
    let p = err_from_is_err_and c.from_residual.result c.from_residual.ensures.1 in
    rw (p.1, p.2, c.in_err-rows.ensures.0)
    (part_refused _ _ _ _ _ (told c.in_range.ensures c.if-not-in_range.false) _ (judged_short _ 0 _ _ _ _ c.in_err-rows.ensures.1) _ refl)

pub returns-in_err-count : goal.returns-in_err-count
returns-in_err-count c =
    let p = err_from_is_err_and c.from_residual-in_err-count.result c.from_residual-in_err-count.ensures.1 in
    let held = c.in_ok-rows.ensures in
    rw (p.1, p.2, sym held.files, sym held.sizes, sym held.costs)
    (part_refused _ _ _ _ _ (told c.in_range.ensures c.if-not-in_range.false) _ c.in_err-count.ensures _ refl)

pub put_part-requires : goal.put_part-requires
put_part-requires c = (part_room _ _ _ _ _ (told c.in_range.ensures c.if-not-in_range.false) _ c.in_ok-count.ensures _ refl).1

pub returns : goal.returns
returns c =
    let held = c.in_ok-rows.ensures in
    rw (sym held.files, sym held.sizes, sym held.costs)
    (part_done _ _ _ _ _ (told c.in_range.ensures c.if-not-in_range.false) _ c.in_ok-count.ensures _ refl _ _ c.put_part.ensures)
