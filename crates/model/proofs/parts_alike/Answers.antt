use Rattle.model.proofs.Pushing.{parts_alike}
use Rattle.model.proofs.parts_alike.Goals as goal

pub returns : goal.returns
returns c = parts_alike
