use Rattle.model.proofs.Example.{two_islands}
use Rattle.model.proofs.two_islands.Goals as goal

pub returns : goal.returns
returns c = two_islands
