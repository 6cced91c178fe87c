use Rattle.model.proofs.Delivery.{ends}
use Rattle.model.proofs.ends.Goals as goal

pub returns : goal.returns
returns c = ends
