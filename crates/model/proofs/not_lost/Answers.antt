use Rattle.model.proofs.Fates.{not_lost}
use Rattle.model.proofs.not_lost.Goals as goal

pub returns : goal.returns
returns c = not_lost
