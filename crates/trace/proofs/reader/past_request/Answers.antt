-- `trace::reader::past_request` meets its contract: each field starts where the one before it ends. Assumes nothing.
use mathlib.Core.Path.{refl}
use Rattle.std.proofs.Common.{rules}
use Rattle.std.proofs.lemmas.Result.{err_from_is_err_and}
use Rattle.amounts.specs.Limits.{is_size, is_cost}
use Rattle.card.specs.declared.Refusal.TheVariants.{Range}
use Rattle.trace.specs.Fields.{is_file}
use Rattle.trace.proofs.Fields.{plain_test, file_stops, size_stops, cost_stops, request_there}
use Rattle.trace.proofs.reader.past_request.Goals as goal

pub read_field-requires-2-clause-at_in_bounds : goal.read_field-requires-2-clause-at_in_bounds
read_field-requires-2-clause-at_in_bounds c = (c.in_ok-file.ensures (is_file c.args.catalogue.0) Range (λ v t k. search rules) refl).inside

pub read_field-requires-3-clause-at_in_bounds : goal.read_field-requires-3-clause-at_in_bounds
read_field-requires-3-clause-at_in_bounds c = (c.in_ok-size.ensures is_size Range (plain_test _) refl).inside

pub returns-in_err-file : goal.returns-in_err-file
returns-in_err-file c =
    let p = err_from_is_err_and c.from_residual.result c.from_residual.ensures.1 in
    let stop = c.in_err-file.ensures (is_file c.args.catalogue.0) Range (λ v t k. search rules) refl in
    rw (p.1, p.2) (file_stops _ _ _ c.requires _ stop)

pub returns-in_err-size : goal.returns-in_err-size
returns-in_err-size c =
    let p = err_from_is_err_and c.from_residual-in_err-size.result c.from_residual-in_err-size.ensures.1 in
    let file = c.in_ok-file.ensures (is_file c.args.catalogue.0) Range (λ v t k. search rules) refl in
    let stop = c.in_err-size.ensures is_size Range (plain_test _) refl in
    rw (p.1, p.2) (size_stops _ _ _ c.requires _ file _ stop)

pub returns-in_err-cost : goal.returns-in_err-cost
returns-in_err-cost c =
    let p = err_from_is_err_and c.from_residual-in_err-cost.result c.from_residual-in_err-cost.ensures.1 in
    let file = c.in_ok-file.ensures (is_file c.args.catalogue.0) Range (λ v t k. search rules) refl in
    let size = c.in_ok-size.ensures is_size Range (plain_test _) refl in
    let stop = c.in_err-cost.ensures is_cost Range (plain_test _) refl in
    rw (p.1, p.2) (cost_stops _ _ _ c.requires _ file _ size _ stop)

pub returns : goal.returns
returns c =
    let file = c.in_ok-file.ensures (is_file c.args.catalogue.0) Range (λ v t k. search rules) refl in
    let size = c.in_ok-size.ensures is_size Range (plain_test _) refl in
    let cost = c.in_ok-cost.ensures is_cost Range (plain_test _) refl in
    request_there _ _ _ c.requires _ file _ size _ cost
