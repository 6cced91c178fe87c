use Rattle.model.proofs.Numbers.{numbers_rise}
use Rattle.model.proofs.numbers_rise.Goals as goal

pub returns : goal.returns
returns c = numbers_rise
