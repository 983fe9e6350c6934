-- `refusing::part::room_for` meets its contract. Assumes nothing.
use mathlib.Core.Path.{sym, ◌∙◌}
use Rattle.std.proofs.lemmas.Result.{err_from_is_err_and}
use Rattle.refusing.proofs.Rooms.{fitting_stop, fitting_good}
use Rattle.refusing.proofs.part.room_for.Goals as goal

pub returns-in_err-count : goal.returns-in_err-count
returns-in_err-count c =
    let p = err_from_is_err_and c.from_residual.result c.from_residual.ensures.1 in
    rw (p.1, p.2) (sym (fitting_stop _ _ _ _ (sym c.in_err-count.ensures)))

pub returns : goal.returns
returns c = c.has_room.ensures ∙ sym (fitting_good _ _ _ _ (sym c.in_ok-count.ensures))
