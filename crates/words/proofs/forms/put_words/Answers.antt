-- `words::forms::put_words` meets its contract. Assumes nothing.
use Rattle.trace.proofs.Laying.{stored}
use Rattle.tables.specs.Start.{words}
use Rattle.words.proofs.forms.put_words.Goals as goal

pub returns : goal.returns
returns c = stored (words c.args.a) c.args.out.now c.requires
