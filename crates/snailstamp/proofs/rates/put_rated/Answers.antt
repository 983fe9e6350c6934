-- `snailstamp::rates::put_rated` meets its contract. Assumes nothing.
use Rattle.snailstamp.proofs.Rating.{put_done}
use Rattle.snailstamp.proofs.rates.put_rated.Goals as goal

pub returns-else-out-lt-RATIO_DOUBLES : goal.returns-else-out-lt-RATIO_DOUBLES
returns-else-out-lt-RATIO_DOUBLES c = put_done _ _ c.in-Ok.is c.if-out-lt-RATIO_DOUBLES.false c.put_ratios.ensures
