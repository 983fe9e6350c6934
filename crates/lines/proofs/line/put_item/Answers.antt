-- `lines::line::put_item` meets its contract. Assumes nothing.
use native.Mathlib.Omega.{arith}
use Rattle.lines.proofs.Items.{item_word, item_space, item_number, item_end, item_inside, item_laid}
use Rattle.lines.proofs.line.put_item.Goals as goal

pub put_bytes-after_word-requires : goal.put_bytes-after_word-requires
put_bytes-after_word-requires c = item_word _ _ _ _ _ c.requires

pub bounds-out-after_word : goal.bounds-out-after_word
bounds-out-after_word c = item_space _ _ _ _ _ c.requires _ _ c.put_bytes-after_word.ensures

pub put_decimal-after_number-requires : goal.put_decimal-after_number-requires
put_decimal-after_number-requires c = item_number _ _ _ _ _ c.requires _ _ c.put_bytes-after_word.ensures

pub bounds-out-after_number : goal.bounds-out-after_number
bounds-out-after_number c = item_end _ _ _ _ _ c.requires _ _ c.put_bytes-after_word.ensures _ _ c.put_decimal-after_number.ensures

pub overflow_add-result : goal.overflow_add-result
overflow_add-result c =
    let x = c.args in
    omega (arith, item_inside x.word.now x.n x.end x.at x.out.now c.requires _ _ c.put_bytes-after_word.ensures _ _ c.put_decimal-after_number.ensures)

pub returns : goal.returns
returns c = item_laid _ _ _ _ _ c.requires _ _ c.put_bytes-after_word.ensures _ _ c.put_decimal-after_number.ensures
