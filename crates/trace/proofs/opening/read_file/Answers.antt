-- `trace::opening::read_file` meets its contract. Assumes nothing.
use mathlib.Core.Path.{refl}
use Rattle.std.proofs.lemmas.Result.{err_from_is_err_and}
use Rattle.trace.proofs.Taking.{five}
use Rattle.trace.proofs.Answers.{start_shut, start_at, file_shut, file_refused, file_done}
use Rattle.trace.proofs.opening.read_file.Goals as goal

pub returns-in_err-settings : goal.returns-in_err-settings
returns-in_err-settings c =
    let p = err_from_is_err_and c.from_residual.result c.from_residual.ensures.1 in
    rw (p.1, p.2) (file_shut _ _ _ _ _ (start_shut _ _ _ c.in_err-settings.ensures refl))

pub invariant_of-numbers : goal.invariant_of-numbers
invariant_of-numbers c = record { in_range = (five _ _ _ _ (start_at _ _ _ _ c.in_ok-settings.ensures refl).1).catalogue_in }

pub read_from-requires : goal.read_from-requires
read_from-requires c = (start_at _ _ _ _ c.in_ok-settings.ensures refl).0

pub returns-in_err-count : goal.returns-in_err-count
returns-in_err-count c =
    let p = start_at _ _ _ _ c.in_ok-settings.ensures refl in
    let q = err_from_is_err_and c.from_residual-in_err-count.result c.from_residual-in_err-count.ensures.1 in
    rw (q.1, q.2) (file_refused _ _ _ _ _ _ p.1 _ _ _ _ c.in_err-count.ensures _ refl)

pub returns : goal.returns
returns c =
    let p = start_at _ _ _ _ c.in_ok-settings.ensures refl in
    file_done _ _ _ _ _ _ p.1 _ _ _ _ c.in_ok-count.ensures _ refl
