-- `judge::is_sound` meets its contract. Assumes nothing.
use mathlib.Core.Path.{refl}
use Prim.Native.Nat.{◌≤◌}
use native.Mathlib.Omega.{arith}
use Rattle.amounts.specs.Limits.{places_most}
use Rattle.tables.proofs.Ranges.{bounded}
use Rattle.totals.specs.Totals.{Numbers}
use Rattle.tables.proofs.Answers.{passed, failed}
use Rattle.tables.specs.Lent.{shown}
use Rattle.judge.proofs.Verdicts.{sound_few, sound_used, sound_filed, sound_own, sound_made, desk, unsound, judged, indexable, stackable, stamped}
use Rattle.judge.proofs.is_sound.Goals as goal

pub returns-then-count-n : goal.returns-then-count-n
returns-then-count-n c = unsound (λ s. omega (arith, c.count.ensures, c.if-count-n.true, sound_few _ _ s)) refl refl

pub returns-then-not-shelf_agrees : goal.returns-then-not-shelf_agrees
returns-then-not-shelf_agrees c =
    let places : c.args.a.settings.places.0 ≤ places_most = (bounded _ c.requires.range).places.1 in
    unsound (λ s. failed c.shelf_agrees.ensures c.if-not-shelf_agrees.true (sound_filed _ _ places c.requires.long.place s)) refl refl

pub index_entries-requires : goal.index_entries-requires
index_entries-requires c =
    let kept : c.args.a.files_kept ≤ c.args.a.settings.places.0 = omega (arith, c.count.ensures, c.if-count-n.false) in
    indexable _ (shown c.args.t) _ _ c.requires kept

pub returns-then-not-index_entries : goal.returns-then-not-index_entries
returns-then-not-index_entries c =
    let x = c.index_entries.ensures in
    unsound (λ s. x.no c.if-not-index_entries.true s.queued) x.long refl

pub stack_unused-requires : goal.stack_unused-requires
stack_unused-requires c =
    let kept : c.args.a.files_kept ≤ c.args.a.settings.places.0 = omega (arith, c.count.ensures, c.if-count-n.false) in
    let x = c.index_entries.ensures in
    stackable _ (shown c.args.t) _ _ c.requires kept _ (x.yes c.if-not-index_entries.false) x.long

pub returns-then-not-stack_unused : goal.returns-then-not-stack_unused
returns-then-not-stack_unused c =
    let kept : c.args.a.files_kept ≤ c.args.a.settings.places.0 = omega (arith, c.count.ensures, c.if-count-n.false) in
    let places : c.args.a.settings.places.0 ≤ places_most = (bounded _ c.requires.range).places.1 in
    let x = c.index_entries.ensures in
    let z = c.stack_unused.ensures in
    let y = x.yes c.if-not-index_entries.false in
    unsound (λ s. z.exact.no c.if-not-stack_unused.true (sound_used _ _ (omega (arith, kept, places)) _ y s)) x.long z.long

pub stamps_own-requires : goal.stamps_own-requires
stamps_own-requires c =
    let kept : c.args.a.files_kept ≤ c.args.a.settings.places.0 = omega (arith, c.count.ensures, c.if-count-n.false) in
    let y = c.index_entries.ensures.yes c.if-not-index_entries.false in
    stamped _ _ _ _ c.requires kept _ y

pub returns : goal.returns
returns c =
    let places : c.args.a.settings.places.0 ≤ places_most = (bounded _ c.requires.range).places.1 in
    let numbers : Numbers c.args.a = passed c.totals_agree.ensures c.if-not-totals_agree.false in
    let kept : c.args.a.files_kept ≤ c.args.a.settings.places.0 = omega (arith, c.count.ensures, c.if-count-n.false) in
    let x = c.index_entries.ensures in
    let y = x.yes c.if-not-index_entries.false in
    let z = c.stack_unused.ensures in
    let said = c.if-not-stack_unused.false in
    judged c.stamps_own.ensures
    (λ own. sound_made _ _ places c.requires.long.place numbers kept _ y (passed c.rest_zero.ensures c.if-not-rest_zero.false)
    (z.exact.yes said) (passed c.shelf_agrees.ensures c.if-not-shelf_agrees.false)
    (c.is_ordered.ensures.yes c.if-not-is_ordered.false) own)
    (λ s. sound_own _ _ places c.requires.long.place _ y s)
    (desk _ _ (omega (arith, kept, places)) _ y _ (z.spare said)) x.long z.long
