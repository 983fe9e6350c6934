-- `layout::whole::put_file` meets its contract. Assumes nothing.
use mathlib.Core.Path.{refl, sym}
use native.Mathlib.Omega.{arith}
use lib.Seq.{length-take-le}
use Rattle.lines.proofs.Items.{laid_as}
use Rattle.layout.proofs.Ways.{page_room, own_held, ran_done}
use Rattle.layout.proofs.whole.put_file.Goals as goal

pub slice_bounds-events-end : goal.slice_bounds-events-end
slice_bounds-events-end c =
    let held = own_held _ _ c.requires (omega (arith, c.count.ensures, c.if-count-gt-OWN_PLACES.false)) (omega (arith, c.count-2.ensures, c.if-count-gt-OWN_CATALOGUE.false)) in
    (ran_done _ _ _ held _ _ c.in-Ok.ensures _ refl).many

pub slice_bounds-put_page-end : goal.slice_bounds-put_page-end
slice_bounds-put_page-end c =
    let held = own_held _ _ c.requires (omega (arith, c.count.ensures, c.if-count-gt-OWN_PLACES.false)) (omega (arith, c.count-2.ensures, c.if-count-gt-OWN_CATALOGUE.false)) in
    sym (length-take-le _ _ (ran_done _ _ _ held _ _ c.in-Ok.ensures _ refl).many)

pub put_page-requires : goal.put_page-requires
put_page-requires c =
    let held = own_held _ _ c.requires (omega (arith, c.count.ensures, c.if-count-gt-OWN_PLACES.false)) (omega (arith, c.count-2.ensures, c.if-count-gt-OWN_CATALOGUE.false)) in
    page_room _ _ (record { room = omega (arith, c.told-text) }) (ran_done _ _ _ held _ _ c.in-Ok.ensures _ refl).short

pub returns-in-Ok : goal.returns-in-Ok
returns-in-Ok c =
    let held = own_held _ _ c.requires (omega (arith, c.count.ensures, c.if-count-gt-OWN_PLACES.false)) (omega (arith, c.count-2.ensures, c.if-count-gt-OWN_CATALOGUE.false)) in
    laid_as (sym (ran_done _ _ _ held _ _ c.in-Ok.ensures _ refl).same) c.put_page.ensures
