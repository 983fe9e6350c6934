-- `writer::lists::write_file` meets its contract. Assumes nothing.
use mathlib.Core.Path.{refl, sym}
use Rattle.std.proofs.lemmas.Result.{err_from_is_err_and}
use Rattle.amounts.proofs.Tests.{told}
use Rattle.trace.proofs.Laying.{roomy_front, roomy_next}
use Rattle.trace.proofs.Listing.{judged_short}
use Rattle.trace.proofs.Judging.{file_room, file_setting, file_refused, file_done}
use Rattle.writer.proofs.lists.write_file.Goals as goal

pub returns-then-not-in_range : goal.returns-then-not-in_range
returns-then-not-in_range c = file_setting _ _ _ _ _ (told c.in_range.ensures c.if-not-in_range.true)

pub returns-in_err-rows : goal.returns-in_err-rows
returns-in_err-rows c =
    let p = err_from_is_err_and c.from_residual.result c.from_residual.ensures.1 in
    rw (p.1, p.2, c.in_err-rows.ensures.0)
    (file_refused _ _ _ _ _ (told c.in_range.ensures c.if-not-in_range.false) _ refl _ (judged_short _ _ _ _ _ _ c.in_err-rows.ensures.1) _ refl)

pub returns-in_err-count : goal.returns-in_err-count
returns-in_err-count c =
    let p = err_from_is_err_and c.from_residual-in_err-count.result c.from_residual-in_err-count.ensures.1 in
    let held = c.in_ok-rows.ensures in
    rw (p.1, p.2, sym held.files, sym held.sizes, sym held.costs)
    (file_refused _ _ _ _ _ (told c.in_range.ensures c.if-not-in_range.false) _ c.settings_width-head.ensures _ c.in_err-count.ensures _ refl)

pub put_settings-from-requires : goal.put_settings-from-requires
put_settings-from-requires c =
    let ok = told c.in_range.ensures c.if-not-in_range.false in
    let p = (file_room _ _ _ _ _ ok _ c.settings_width-head.ensures _ c.in_ok-count.ensures _ refl).1 in
    record { settings_value = ok; roomy = roomy_front _ _ _ _ p }

pub put_part-requires : goal.put_part-requires
put_part-requires c =
    let p = (file_room _ _ _ _ _ (told c.in_range.ensures c.if-not-in_range.false) _ c.settings_width-head.ensures _ c.in_ok-count.ensures _ refl).1 in
    roomy_next _ _ _ _ _ _ c.put_settings-from.ensures p

pub returns : goal.returns
returns c =
    let held = c.in_ok-rows.ensures in
    rw (sym held.files, sym held.sizes, sym held.costs)
    (file_done _ _ _ _ _ (told c.in_range.ensures c.if-not-in_range.false) _ c.settings_width-head.ensures _ c.in_ok-count.ensures _ refl _ _ _ _ c.put_settings-from.ensures c.put_part.ensures)
