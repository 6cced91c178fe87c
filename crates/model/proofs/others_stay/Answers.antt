use Rattle.model.proofs.Turns.{others_stay}
use Rattle.model.proofs.others_stay.Goals as goal

pub returns : goal.returns
returns c = others_stay
