-- `trace::reader::request_at` meets its contract. Assumes nothing.
use Rattle.trace.proofs.Taking.{file_there, size_there, cost_there, three}
use Rattle.trace.proofs.reader.request_at.Goals as goal

pub number_at-file-requires : goal.number_at-file-requires
number_at-file-requires c = file_there _ _ c.requires

pub number_at-size-requires : goal.number_at-size-requires
number_at-size-requires c = size_there _ _ c.requires _ c.number_at-file.ensures

pub number_at-cost-requires : goal.number_at-cost-requires
number_at-cost-requires c = cost_there _ _ c.requires _ c.number_at-file.ensures _ c.number_at-size.ensures

pub returns : goal.returns
returns c = three _ _ _ _ _ c.number_at-file.ensures c.number_at-size.ensures c.number_at-cost.ensures
