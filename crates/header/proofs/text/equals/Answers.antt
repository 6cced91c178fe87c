use Rattle.header.proofs.Small.{same_small}
use Rattle.header.proofs.text.equals.Goals as goal

pub returns : goal.returns
returns c = same_small c.eq_ignore_ascii_case.result c.args.text.now c.args.other.now c.eq_ignore_ascii_case.ensures.test
