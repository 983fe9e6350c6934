-- `weighing::sums::kept_product` meets its contract. Assumes nothing.
use Rattle.amounts.specs.Limits.{size_most}
use Rattle.amounts.proofs.Tests.{in_one_to}
use Rattle.weighing.proofs.sums.kept_product.Goals as goal

pub size-requires : goal.size-requires
size-requires c = in_one_to size_most _ c.requires.valued.size_least c.requires.valued.size_at_most
