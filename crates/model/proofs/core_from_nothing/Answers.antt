use Rattle.model.proofs.Known.{core_from_nothing}
use Rattle.model.proofs.core_from_nothing.Goals as goal

pub returns : goal.returns
returns c = core_from_nothing
