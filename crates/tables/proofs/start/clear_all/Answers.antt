-- `tables::start::clear_all` meets its contract. Assumes nothing.
use Rattle.tables.proofs.Lengths.{tables_eq}
use Rattle.tables.proofs.Lists.{filled_by}
use Rattle.tables.proofs.start.clear_all.Goals as goal

pub returns : goal.returns
returns c =
    let long = c.requires in
    tables_eq
    (filled_by _ _ _ _ long.place (c.fill.ensures.after (λ y e. e)))
    (filled_by _ _ _ _ long.file (c.fill-2.ensures.after (λ y e. e)))
    (filled_by _ _ _ _ long.size (c.fill-3.ensures.after (λ y e. e)))
    (filled_by _ _ _ _ long.cost (c.fill-4.ensures.after (λ y e. e)))
    (filled_by _ _ _ _ long.freq (c.fill-5.ensures.after (λ y e. e)))
    (filled_by _ _ _ _ long.key (c.fill-6.ensures.after (λ y e. e)))
    (filled_by _ _ _ _ long.stamp (c.fill-7.ensures.after (λ y e. e)))
    (filled_by _ _ _ _ long.queue (c.fill-8.ensures.after (λ y e. e)))
