-- `trace::request::Request::in_range` meets its contract. Assumes nothing.
use mathlib.Core.Path.{sym, ◌∙◌}
use mathlib.Core.Bool.{true≢false}
use Rattle.amounts.proofs.Tests.{told}
use Rattle.trace.specs.Fields.{is_request}
use Rattle.trace.proofs.request.Request.in_range.Goals as goal
use Rattle.trace.proofs.request.Request.in_range.Goals.{then-is_file, else-is_file}

pub returns-then-is_size : goal.returns-then-is_size
unfolding is_request
returns-then-is_size c =
    elim c.if-is_file.branch [
      | then-is_file w ↦ simp (told c.is_file.ensures w.if-is_file.true, told w.is_size.ensures (sym w.value-is ∙ c.if-is_size.true)) c.is_cost.ensures
      | else-is_file w ↦ absurd (true≢false (sym c.if-is_size.true ∙ w.value-is ∙ w.if-is_file.false))
    ]

pub returns-else-is_size : goal.returns-else-is_size
unfolding is_request
returns-else-is_size c =
    elim c.if-is_file.branch [
      | then-is_file w ↦ simp (told c.is_file.ensures w.if-is_file.true, told w.is_size.ensures (sym w.value-is ∙ c.if-is_size.false)) c.if-is_size.false
      | else-is_file w ↦ simp (told c.is_file.ensures w.if-is_file.false) c.if-is_size.false
    ]
