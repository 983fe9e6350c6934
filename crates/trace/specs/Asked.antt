-- A request as the code holds it, as one of the paper. Assumes nothing.
use Rattle.amounts.specs.Requests as paper
use Rattle.trace.specs.declared.request.Request.{Request}

abbrev pub asked : Request → paper.Request
asked q = record { file = q.file; size = q.size; cost = q.cost }
