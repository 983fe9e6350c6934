-- `tables::start::fresh` meets its contract. Assumes nothing.
use mathlib.Core.Path.{ap, ◌∙◌}
use Rattle.std.proofs.Common.{Ok}
use Rattle.amounts.proofs.Tests.{told}
use Rattle.tables.specs.Tables.{Tables, tables, cleared}
use Rattle.tables.specs.Start.{start_card}
use Rattle.tables.proofs.Lengths.{long_of}
use Rattle.tables.proofs.Starting.{fresh_0, fresh_1, fresh_2}
use Rattle.tables.proofs.start.fresh.Goals as goal

pub returns-then-not-in_range : goal.returns-then-not-in_range
returns-then-not-in_range c = fresh_1 _ _ (told c.in_range.ensures c.if-not-in_range.true)

pub returns-then-not-are_long : goal.returns-then-not-are_long
returns-then-not-are_long c = fresh_2 _ _ (told c.in_range.ensures c.if-not-in_range.false) (told c.are_long.ensures c.if-not-are_long.true)

pub clear_all-requires : goal.clear_all-requires
clear_all-requires c = rw (c.count-places.ensures, c.count-catalogue.ensures) (long_of _ _ _ (told c.are_long.ensures c.if-not-are_long.false))

pub returns : goal.returns
returns c =
    let t : Tables = let x = c.args in
    tables x.place.now x.file.now x.size.now x.cost.now x.freq.now x.key.now x.stamp.now x.queue.now in
    let z = fresh_0 _ _ (told c.in_range.ensures c.if-not-in_range.false) (told c.are_long.ensures c.if-not-are_long.false) in
    record {
      answer = ap (λ a. start_card (Ok a)) c.new.ensures ∙ z.answer;
      lent = c.clear_all.ensures ∙ (λ i. cleared (c.count-places.ensures i) (c.count-catalogue.ensures i) t) ∙ z.lent;
    }
