-- `trace::reader::read_part` meets its contract. Assumes nothing.
use mathlib.Core.Path.{sym}
use Rattle.std.proofs.lemmas.Result.{err_from_is_err_and}
use Rattle.trace.proofs.Answers.{part_setting, part_from}
use Rattle.trace.proofs.reader.read_part.Goals as goal

pub returns-in_err-numbers : goal.returns-in_err-numbers
returns-in_err-numbers c =
    let p = err_from_is_err_and c.from_residual.result c.from_residual.ensures.1 in
    rw (p.1, p.2, c.in_err-numbers.ensures.0) (part_setting _ _ _ _ _ c.in_err-numbers.ensures.1)

pub returns : goal.returns
returns c = rw (sym c.in_ok-numbers.ensures) (part_from _ _ _ _ _ c.in_ok-numbers.numbers.in_range _ _ _ _ c.read_from.ensures)
