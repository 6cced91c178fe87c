use Rattle.model.proofs.NotLost.{delivered}
use Rattle.model.proofs.delivered.Goals as goal

pub returns : goal.returns
returns c = delivered
