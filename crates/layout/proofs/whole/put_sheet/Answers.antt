-- `layout::whole::put_sheet` meets its contract. Assumes nothing.
use mathlib.Core.Path.{refl}
use Rattle.lines.proofs.Items.{laid_as}
use Rattle.layout.proofs.Ways.{too_long, start_refused, start_inside, start_given, start_same}
use Rattle.layout.proofs.whole.put_sheet.Goals as goal

pub returns-then-trace-gt-INPUT_MOST : goal.returns-then-trace-gt-INPUT_MOST
returns-then-trace-gt-INPUT_MOST c = laid_as (too_long c.args.trace.now c.if-trace-gt-INPUT_MOST.true) c.put_refused.ensures

-- the requests begin inside the bytes
pub slice_bounds-put_file-count : goal.slice_bounds-put_file-count
slice_bounds-put_file-count c = start_inside c.args.trace.now c.if-trace-gt-INPUT_MOST.false _ c.in-Ok.ensures _ _ refl

pub slice_bounds-put_file-start : goal.slice_bounds-put_file-start
slice_bounds-put_file-start c = start_inside c.args.trace.now c.if-trace-gt-INPUT_MOST.false _ c.in-Ok.ensures _ _ refl

pub put_file-requires : goal.put_file-requires
put_file-requires c = start_given c.args.trace.now c.if-trace-gt-INPUT_MOST.false _ c.in-Ok.ensures _ _ refl

pub returns-in-Err : goal.returns-in-Err
returns-in-Err c = laid_as (start_refused c.args.trace.now c.if-trace-gt-INPUT_MOST.false _ c.in-Err.ensures _ refl) c.put_refused-in-Err.ensures

pub returns-in-Ok : goal.returns-in-Ok
returns-in-Ok c = laid_as (start_same c.args.trace.now c.if-trace-gt-INPUT_MOST.false _ c.in-Ok.ensures _ _ refl) c.put_file.ensures
