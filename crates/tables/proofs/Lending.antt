-- Laws of lending the caller's slices on. Assumes nothing.
use mathlib.Core.Path.{◌∙◌, refl}
use Rattle.tables.specs.Lent.{Same}
use Rattle.tables.specs.declared.records.Records as lent

pub same_more : {r s t : lent.Records} → Same r s → Same s t → Same r t
same_more a b =
    record { place = b.place ∙ a.place; file = b.file ∙ a.file; size = b.size ∙ a.size; cost = b.cost ∙ a.cost; freq = b.freq ∙ a.freq }
