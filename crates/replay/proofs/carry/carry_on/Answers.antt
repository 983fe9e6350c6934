-- `replay::carry::carry_on` meets its contract. Assumes nothing.
use mathlib.Core.Path.{sym, ap, ◌∙◌}
use Rattle.tables.specs.Tables.{long_enough}
use Rattle.tables.specs.declared.table_lengths.TableLengths.{TableLengths}
use Rattle.refusing.specs.Judging.{settled}
use Rattle.replay.proofs.Carryings.{orderly}
use Rattle.replay.proofs.carry.carry_on.Goals as goal

pub carry_sound-requires : goal.carry_sound-requires
carry_sound-requires c =
    let a = c.args.a in
    let measured = ap (λ (l : TableLengths). settled c.args.unit.0 a (long_enough a.settings.places.0 a.settings.catalogue.0 l.place l.file l.size l.cost l.freq l.key l.stamp l.queue)) c.lengths.ensures in
    orderly _ _ _ (sym (c.in_ok-judge_settings.ensures ∙ measured))
