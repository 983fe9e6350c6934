-- `trace::number::read_field` meets its contract. Assumes nothing.
use mathlib.Core.Path.{sym}
use Rattle.std.proofs.lemmas.Result.{err_from_is_err_and}
use Rattle.trace.proofs.Fields.{field_none, field_out, field_val}
use Rattle.trace.proofs.number.read_field.Goals as goal

pub returns-then-in_range : goal.returns-then-in_range
returns-then-in_range g c = λ inside refusal tells out.
    let n = c.in_ok-number.ensures in
    field_val _ _ c.requires.at_in_bounds inside refusal _ n (sym (tells _ _ c.if-in_range.ensures))

pub returns : goal.returns
returns g c = λ inside refusal tells out.
    let n = c.in_ok-number.ensures in
    rw (← out) (field_out _ _ c.requires.at_in_bounds inside refusal _ n (sym (tells _ _ c.if-in_range.ensures)))

pub returns-in_err-number : goal.returns-in_err-number
returns-in_err-number g c = λ inside refusal tells out.
    let p = err_from_is_err_and c.from_residual.result c.from_residual.ensures.1 in
    let n = c.in_err-number.ensures in
    rw (p.1, p.2, n.0) (field_none _ _ c.requires.at_in_bounds inside refusal n.1)
