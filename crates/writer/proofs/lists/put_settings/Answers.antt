-- `writer::lists::put_settings` meets its contract. Assumes nothing.
use Rattle.trace.proofs.Laying.{roomy_front, roomy_next, laid_then}
use Rattle.trace.proofs.Ranges.{settled}
use Rattle.writer.proofs.lists.put_settings.Goals as goal

pub put_number-at_policy-requires : goal.put_number-at_policy-requires
put_number-at_policy-requires c = record {
  n_le_number_most = (settled _ c.requires.settings_value).unit_small;
  roomy = roomy_front _ _ _ _ c.requires.roomy;
}

pub put_number-at_capacity-requires : goal.put_number-at_capacity-requires
put_number-at_capacity-requires c =
    let policy = roomy_next _ _ _ _ _ _ c.put_number-at_policy.ensures c.requires.roomy in
    record { n_le_number_most = (settled _ c.requires.settings_value).policy_small; roomy = roomy_front _ _ _ _ policy }

pub put_number-at_places-requires : goal.put_number-at_places-requires
put_number-at_places-requires c =
    let policy = roomy_next _ _ _ _ _ _ c.put_number-at_policy.ensures c.requires.roomy in
    let capacity = roomy_next _ _ _ _ _ _ c.put_number-at_capacity.ensures policy in
    record { n_le_number_most = (settled _ c.requires.settings_value).capacity_small; roomy = roomy_front _ _ _ _ capacity }

pub put_number-at_catalogue-requires : goal.put_number-at_catalogue-requires
put_number-at_catalogue-requires c =
    let policy = roomy_next _ _ _ _ _ _ c.put_number-at_policy.ensures c.requires.roomy in
    let capacity = roomy_next _ _ _ _ _ _ c.put_number-at_capacity.ensures policy in
    let places = roomy_next _ _ _ _ _ _ c.put_number-at_places.ensures capacity in
    record { n_le_number_most = (settled _ c.requires.settings_value).places_small; roomy = roomy_front _ _ _ _ places }

pub put_number-requires : goal.put_number-requires
put_number-requires c =
    let policy = roomy_next _ _ _ _ _ _ c.put_number-at_policy.ensures c.requires.roomy in
    let capacity = roomy_next _ _ _ _ _ _ c.put_number-at_capacity.ensures policy in
    let places = roomy_next _ _ _ _ _ _ c.put_number-at_places.ensures capacity in
    record {
      n_le_number_most = (settled _ c.requires.settings_value).catalogue_small;
      roomy = roomy_next _ _ _ _ _ _ c.put_number-at_catalogue.ensures places;
    }

pub returns : goal.returns
returns c =
    laid_then _ _ _ _ _ _ c.put_number-at_policy.ensures _ _
    (laid_then _ _ _ _ _ _ c.put_number-at_capacity.ensures _ _
    (laid_then _ _ _ _ _ _ c.put_number-at_places.ensures _ _
    (laid_then _ _ _ _ _ _ c.put_number-at_catalogue.ensures _ _ c.put_number.ensures)))
