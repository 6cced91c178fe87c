use Rattle.model.proofs.Always.{pushes_in_parts}
use Rattle.model.proofs.pushes_in_parts.Goals as goal

pub returns : goal.returns
returns c = pushes_in_parts
