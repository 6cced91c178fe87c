use Rattle.model.proofs.Later.{never_again}
use Rattle.model.proofs.never_again.Goals as goal

pub returns : goal.returns
returns c = never_again
