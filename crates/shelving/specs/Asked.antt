-- The request that a run's code has as one value. Assumes nothing.
use Rattle.amounts.specs.Requests.{Request}
use Rattle.shelving.specs.declared.asked.Asked.{Asked}

-- document 01, "The run": the request as the method has it
abbrev pub request_of : Asked → Request
request_of q = record { file = q.file; size = q.size.0; cost = q.cost.0 }
