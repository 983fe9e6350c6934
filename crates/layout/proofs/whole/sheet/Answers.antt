-- `layout::whole::sheet` meets its contract. Assumes nothing.
use Prim.Native.Nat.{◌≤◌}
use mathlib.Core.Path.{sym}
use native.Mathlib.Omega.{arith}
use lib.ListN.{length}
use lib.Seq.{length-take-le}
use Rattle.layout.specs.Sheet.{sheet_most}
use Rattle.layout.proofs.Ways.{own_ample, sheet_inside, sheet_done}
use Rattle.layout.proofs.whole.sheet.Goals as goal

pub slice_bounds-text-end : goal.slice_bounds-text-end
slice_bounds-text-end c = sheet_inside _ _ _ _ c.put_sheet-count.ensures (own_ample sheet_most (omega arith)) c.args.out.now

pub slice_bounds-put_bytes-end : goal.slice_bounds-put_bytes-end
slice_bounds-put_bytes-end c = sym (length-take-le _ _ (sheet_inside _ _ _ _ c.put_sheet-count.ensures (own_ample sheet_most (omega arith)) c.args.out.now))

pub returns : goal.returns
returns c =
    let fits : c.put_sheet-count.result ≤ length c.args.out.now = omega arith in
    sheet_done _ _ _ _ c.put_sheet-count.ensures (own_ample sheet_most (omega arith)) _ fits _ _ c.put_bytes.ensures
