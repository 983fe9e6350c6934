-- `writer::lists::put_part` meets its contract: at the loop's head the requests that are left make of the list what all of them make of the list at entry. Assumes nothing.
use mathlib.Core.Path.{sym, subst}
use native.Mathlib.Omega.{arith}
use Rattle.amounts.specs.Requests.{Request}
use Rattle.trace.specs.Writing.{request_bytes}
use Rattle.trace.specs.Stores.{Roomy, Laid}
use Rattle.trace.proofs.Laying.{left_first, left_end}
use Rattle.trace.proofs.Listing.{rest_at, put_room, put_more, put_end}
use Rattle.writer.proofs.lists.put_part.Goals as goal

pub loop-i-init : goal.loop-i-init
unfolding rest_at
loop-i-init c = left_first _ _ _

pub put_request-at-requires : goal.put_request-at-requires
put_request-at-requires c =
    subst (λ (q : Request). Roomy (request_bytes q) c.loop-i.at c.loop-i.out) (sym c.row.ensures) (put_room _ _ _ c.args.rows.listed _ _ _ c.loop-i.invariant (omega arith) c.requires)

pub loop-i-preserved : goal.loop-i-preserved
loop-i-preserved c =
    put_more _ _ _ c.args.rows.listed _ _ _ c.loop-i.invariant (omega arith) _ _ (subst (λ (q : Request). Laid (request_bytes q) c.loop-i.at c.loop-i.out c.put_request-at.new.out c.put_request-at.result) c.row.ensures c.put_request-at.ensures)

pub returns : goal.returns
returns c = left_end _ _ (put_end _ _ _ c.args.rows.listed _ _ _ c.loop-i.invariant (omega arith))
