use Rattle.model.proofs.Stays.{stays_reached}
use Rattle.model.proofs.stays_reached.Goals as goal

pub returns : goal.returns
returns c = stays_reached
