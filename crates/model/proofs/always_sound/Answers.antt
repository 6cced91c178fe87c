use Rattle.model.proofs.Always.{always_sound}
use Rattle.model.proofs.always_sound.Goals as goal

pub returns : goal.returns
returns c = always_sound
