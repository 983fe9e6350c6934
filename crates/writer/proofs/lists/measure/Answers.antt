-- `writer::lists::measure` meets its contract: at the loop's head the bytes counted and those of the requests that are left make all. Assumes nothing.
use mathlib.Core.Path.{refl, ap, ◌∙◌}
use native.Mathlib.Omega.{arith}
use lib.ListN.{length}
use Rattle.amounts.specs.Requests.{Request}
use Rattle.trace.specs.Writing.{request_bytes}
use Rattle.trace.proofs.Listing.{rest_at, measure_short, measure_more, measure_end}
use Rattle.writer.proofs.lists.measure.Goals as goal

pub loop-i-init : goal.loop-i-init
unfolding rest_at
loop-i-init c = (omega arith, refl)

pub returns-then-room-total : goal.returns-then-room-total
returns-then-room-total c =
    measure_short _ _ _ c.args.rows.listed _ _ _ _ c.loop-i.invariant.1 c.loop-i.invariant.0 (omega arith) _ (c.request_width-more.ensures ∙ ap (λ (q : Request). length (request_bytes q)) c.row.ensures) c.if-room-total.true

pub loop-i-preserved : goal.loop-i-preserved
loop-i-preserved c = (
  omega arith,
  measure_more _ _ _ c.args.rows.listed _ _ _ _ c.loop-i.invariant.1 c.loop-i.invariant.0 (omega arith) _ (c.request_width-more.ensures ∙ ap (λ (q : Request). length (request_bytes q)) c.row.ensures),
)

pub returns : goal.returns
returns c = measure_end _ _ _ c.args.rows.listed _ _ _ _ c.loop-i.invariant.1 c.loop-i.invariant.0 (omega arith)
