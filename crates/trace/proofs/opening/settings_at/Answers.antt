-- `trace::opening::settings_at` meets its contract: each field starts where the one before it ends. Assumes nothing.
use mathlib.Core.Path.{refl}
use Rattle.std.proofs.lemmas.Result.{err_from_is_err_and}
use Rattle.amounts.specs.Limits.{is_unit, is_policy, is_capacity, is_places, is_catalogue}
use Rattle.trace.specs.Reading.{setting, settings_of}
use Rattle.trace.proofs.Fields.{plain_test}
use Rattle.trace.proofs.Answers.{opening_shut, opening_at}
use Rattle.trace.proofs.opening.settings_at.Goals as goal

pub returns-in_err-unit : goal.returns-in_err-unit
unfolding settings_of
returns-in_err-unit c =
    let p = err_from_is_err_and c.from_residual.result c.from_residual.ensures.1 in
    let stop = c.in_err-unit.ensures is_unit setting (plain_test _) refl in
    rw (p.1, p.2) (opening_shut _ _ (rw (stop)))

pub read_field-requires-2-clause-at_in_bounds : goal.read_field-requires-2-clause-at_in_bounds
read_field-requires-2-clause-at_in_bounds c = (c.in_ok-unit.ensures is_unit setting (plain_test _) refl).inside

pub returns-in_err-policy : goal.returns-in_err-policy
unfolding settings_of
returns-in_err-policy c =
    let p = err_from_is_err_and c.from_residual-in_err-policy.result c.from_residual-in_err-policy.ensures.1 in
    let unit = c.in_ok-unit.ensures is_unit setting (plain_test _) refl in
    let stop = c.in_err-policy.ensures is_policy setting (plain_test _) refl in
    rw (p.1, p.2) (opening_shut _ _ (rw (unit.judged, stop)))

pub read_field-requires-3-clause-at_in_bounds : goal.read_field-requires-3-clause-at_in_bounds
read_field-requires-3-clause-at_in_bounds c = (c.in_ok-policy.ensures is_policy setting (plain_test _) refl).inside

pub returns-in_err-capacity : goal.returns-in_err-capacity
unfolding settings_of
returns-in_err-capacity c =
    let p = err_from_is_err_and c.from_residual-in_err-capacity.result c.from_residual-in_err-capacity.ensures.1 in
    let unit = c.in_ok-unit.ensures is_unit setting (plain_test _) refl in
    let policy = c.in_ok-policy.ensures is_policy setting (plain_test _) refl in
    let stop = c.in_err-capacity.ensures is_capacity setting (plain_test _) refl in
    rw (p.1, p.2) (opening_shut _ _ (rw (unit.judged, policy.judged, stop)))

pub read_field-requires-4-clause-at_in_bounds : goal.read_field-requires-4-clause-at_in_bounds
read_field-requires-4-clause-at_in_bounds c = (c.in_ok-capacity.ensures is_capacity setting (plain_test _) refl).inside

pub returns-in_err-places : goal.returns-in_err-places
unfolding settings_of
returns-in_err-places c =
    let p = err_from_is_err_and c.from_residual-in_err-places.result c.from_residual-in_err-places.ensures.1 in
    let unit = c.in_ok-unit.ensures is_unit setting (plain_test _) refl in
    let policy = c.in_ok-policy.ensures is_policy setting (plain_test _) refl in
    let capacity = c.in_ok-capacity.ensures is_capacity setting (plain_test _) refl in
    let stop = c.in_err-places.ensures is_places setting (plain_test _) refl in
    rw (p.1, p.2) (opening_shut _ _ (rw (unit.judged, policy.judged, capacity.judged, stop)))

pub read_field-requires-5-clause-at_in_bounds : goal.read_field-requires-5-clause-at_in_bounds
read_field-requires-5-clause-at_in_bounds c = (c.in_ok-places.ensures is_places setting (plain_test _) refl).inside

pub returns-in_err-catalogue : goal.returns-in_err-catalogue
unfolding settings_of
returns-in_err-catalogue c =
    let p = err_from_is_err_and c.from_residual-in_err-catalogue.result c.from_residual-in_err-catalogue.ensures.1 in
    let unit = c.in_ok-unit.ensures is_unit setting (plain_test _) refl in
    let policy = c.in_ok-policy.ensures is_policy setting (plain_test _) refl in
    let capacity = c.in_ok-capacity.ensures is_capacity setting (plain_test _) refl in
    let places = c.in_ok-places.ensures is_places setting (plain_test _) refl in
    let stop = c.in_err-catalogue.ensures is_catalogue setting (plain_test _) refl in
    rw (p.1, p.2) (opening_shut _ _ (rw (unit.judged, policy.judged, capacity.judged, places.judged, stop)))

pub returns : goal.returns
unfolding settings_of
returns c =
    let unit = c.in_ok-unit.ensures is_unit setting (plain_test _) refl in
    let policy = c.in_ok-policy.ensures is_policy setting (plain_test _) refl in
    let capacity = c.in_ok-capacity.ensures is_capacity setting (plain_test _) refl in
    let places = c.in_ok-places.ensures is_places setting (plain_test _) refl in
    let catalogue = c.in_ok-catalogue.ensures is_catalogue setting (plain_test _) refl in
    opening_at _ _ _ catalogue.inside (rw (unit.judged, policy.judged, capacity.judged, places.judged, catalogue.judged))
