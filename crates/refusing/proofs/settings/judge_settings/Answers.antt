-- `refusing::settings::judge_settings` meets its contract. Assumes nothing.
use Prim.Native.Nat.{ℕ}
use mathlib.Core.Path.{◌≡◌, ◌∙◌}
use mathlib.Core.Bool.{Bool, true}
use Rattle.amounts.specs.Limits.{is_unit}
use Rattle.amounts.specs.Settings.{in_range}
use Rattle.amounts.proofs.Tests.{told}
use Rattle.tables.specs.Tables.{long_enough}
use Rattle.tables.specs.declared.table_lengths.TableLengths.{TableLengths}
use Rattle.refusing.specs.Judging.{settled}
use Rattle.refusing.proofs.settings.judge_settings.Goals as goal

-- the lengths are tested against the settings' own numbers
enough : {r : Bool} (x : TableLengths) {places catalogue places' catalogue' : ℕ} → r ≡ long_enough places catalogue x.place x.file x.size x.cost x.freq x.key x.stamp x.queue → places ≡ places' → catalogue ≡ catalogue'
    → r ≡ long_enough places' catalogue' x.place x.file x.size x.cost x.freq x.key x.stamp x.queue
enough x is p k = is ∙ (λ i. long_enough (p i) (k i) x.place x.file x.size x.cost x.freq x.key x.stamp x.queue)

pub returns-then-not-in_range : goal.returns-then-not-in_range
unfolding settled
returns-then-not-in_range c = simp (told c.in_range.ensures c.if-not-in_range.true)

pub returns-then-not-in_range-2 : goal.returns-then-not-in_range-2
unfolding settled
returns-then-not-in_range-2 c =
    let unit_passes : is_unit c.args.unit.0 ≡ true = told c.in_range.ensures c.if-not-in_range.false in
    simp (unit_passes, told c.in_range-2.ensures c.if-not-in_range-2.true)

pub returns-then-not-are_enough : goal.returns-then-not-are_enough
unfolding settled
returns-then-not-are_enough c =
    let unit_passes : is_unit c.args.unit.0 ≡ true = told c.in_range.ensures c.if-not-in_range.false in
    let range_passes : in_range c.args.a.settings ≡ true = told c.in_range-2.ensures c.if-not-in_range-2.false in
    simp (unit_passes, range_passes, told (enough c.args.lengths c.are_enough.ensures c.count-places.ensures c.count-catalogue.ensures) c.if-not-are_enough.true)

pub returns-then-eq : goal.returns-then-eq
unfolding settled
returns-then-eq c =
    let unit_passes : is_unit c.args.unit.0 ≡ true = told c.in_range.ensures c.if-not-in_range.false in
    let range_passes : in_range c.args.a.settings ≡ true = told c.in_range-2.ensures c.if-not-in_range-2.false in
    simp (unit_passes, range_passes, told (enough c.args.lengths c.are_enough.ensures c.count-places.ensures c.count-catalogue.ensures) c.if-not-are_enough.false, told c.eq.ensures c.if-eq.true)

pub returns : goal.returns
unfolding settled
returns c =
    let unit_passes : is_unit c.args.unit.0 ≡ true = told c.in_range.ensures c.if-not-in_range.false in
    let range_passes : in_range c.args.a.settings ≡ true = told c.in_range-2.ensures c.if-not-in_range-2.false in
    simp (unit_passes, range_passes, told (enough c.args.lengths c.are_enough.ensures c.count-places.ensures c.count-catalogue.ensures) c.if-not-are_enough.false, told c.eq.ensures c.if-eq.false)
