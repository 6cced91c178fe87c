use Rattle.std.proofs.Common.{refl}
use Rattle.days.specs.Chance.{mixed}
use Rattle.days.proofs.random.mix.Goals as goal

pub returns : goal.returns
unfolding mixed
returns c = refl
