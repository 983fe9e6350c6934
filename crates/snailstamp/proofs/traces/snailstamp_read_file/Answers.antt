-- `snailstamp::traces::snailstamp_read_file` meets its contract. Assumes nothing.
use Rattle.snailstamp.proofs.Tracing.{file_put_lem}
use Rattle.snailstamp.proofs.traces.snailstamp_read_file.Goals as goal

pub returns : goal.returns
returns c = file_put_lem _ _ _ _ _ c.if-settings-lt-SETTINGS_WORDS.false _ _ _ _ c.read_file-read.ensures _ _ c.put_read.ensures
