-- `writer::lists::settings_width` meets its contract. Assumes nothing.
use native.Mathlib.Omega.{arith}
use Rattle.trace.proofs.Spelling.{encode_short}
use Rattle.trace.proofs.Ranges.{settled}
use Rattle.writer.proofs.lists.settings_width.Goals as goal

pub width-unit-requires : goal.width-unit-requires
width-unit-requires c = (settled _ c.requires).unit_small

pub width-policy-requires : goal.width-policy-requires
width-policy-requires c = (settled _ c.requires).policy_small

pub width-capacity-requires : goal.width-capacity-requires
width-capacity-requires c = (settled _ c.requires).capacity_small

pub width-places-requires : goal.width-places-requires
width-places-requires c = (settled _ c.requires).places_small

pub width-catalogue-requires : goal.width-catalogue-requires
width-catalogue-requires c = (settled _ c.requires).catalogue_small

pub overflow_add-result-2 : goal.overflow_add-result-2
overflow_add-result-2 c =
    let s = c.args.settings in
    omega (arith, encode_short s.unit.0, encode_short s.policy.0, encode_short s.capacity.0)

pub overflow_add-result-3 : goal.overflow_add-result-3
overflow_add-result-3 c =
    let s = c.args.settings in
    omega (arith, encode_short s.unit.0, encode_short s.policy.0, encode_short s.capacity.0, encode_short s.places.0)

pub overflow_add-result-4 : goal.overflow_add-result-4
overflow_add-result-4 c =
    let s = c.args.settings in
    omega (arith, encode_short s.unit.0, encode_short s.policy.0, encode_short s.capacity.0, encode_short s.places.0, encode_short s.catalogue.0)
