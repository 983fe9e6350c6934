-- `replay::carry::carry_sound` meets its contract. Assumes nothing.
use mathlib.Core.Path.{sym}
use Rattle.tables.proofs.Ranges.{bounded}
use Rattle.replay.proofs.Carryings.{sound_running, judgeable, fits_ready}
use Rattle.replay.proofs.carry.carry_sound.Goals as goal

pub is_sound-requires : goal.is_sound-requires
is_sound-requires c =
    let o = c.requires in
    let few = (bounded c.args.a.settings o.range).places.1 in
    record { range = o.range; long = o.long; entry_long = few; free_long = few }

pub room_for-requires : goal.room_for-requires
room_for-requires c =
    let v = c.is_sound.ensures in
    judgeable _ _ c.requires (v.yes c.if-not-is_sound.false)

pub serve_part-requires : goal.serve_part-requires
serve_part-requires c =
    let few = (bounded c.args.a.settings c.requires.range).places.1 in
    let running = sound_running _ _ _ _ _ _ _ c.is_sound.ensures c.requires c.if-not-is_sound.false few few in
    fits_ready _ _ _ _ _ _ _ running (sym c.in_ok-count.ensures)
