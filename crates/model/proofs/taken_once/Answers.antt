use Rattle.model.proofs.Pushing.{taken_once}
use Rattle.model.proofs.taken_once.Goals as goal

pub returns : goal.returns
returns c = taken_once
