-- `writer::lists::first_out` meets its contract: at the loop's head the first request out of range is not among those passed. Assumes nothing.
use mathlib.Core.Path.{ap, sym, ◌∙◌}
use native.Mathlib.Omega.{arith}
use Rattle.amounts.proofs.Tests.{told}
use Rattle.trace.specs.Fields.{is_request}
use Rattle.trace.proofs.Listing.{rest_at, out_here, out_later, out_none}
use Rattle.writer.proofs.lists.first_out.Goals as goal

pub loop-i-init : goal.loop-i-init
unfolding rest_at
loop-i-init c = omega arith

pub returns-then-not-in_range : goal.returns-then-not-in_range
returns-then-not-in_range c =
    out_here _ _ _ _ c.args.rows.listed _ c.loop-i.invariant (omega arith) (ap (is_request _) (sym c.row.ensures) ∙ told c.in_range.ensures c.if-not-in_range.true)

pub loop-i-preserved : goal.loop-i-preserved
loop-i-preserved c =
    out_later _ _ _ _ c.args.rows.listed _ c.loop-i.invariant (omega arith) (ap (is_request _) (sym c.row.ensures) ∙ told c.in_range.ensures c.if-not-in_range.false)

pub returns : goal.returns
returns c = omega (arith, out_none _ _ _ _ c.args.rows.listed _ c.loop-i.invariant (omega arith))
