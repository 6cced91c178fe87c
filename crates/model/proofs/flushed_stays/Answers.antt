use Rattle.model.proofs.Device.{flushed_stays}
use Rattle.model.proofs.flushed_stays.Goals as goal

pub returns : goal.returns
returns c = flushed_stays
