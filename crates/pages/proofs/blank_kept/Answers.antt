use Rattle.pages.proofs.Blank.{blank_kept}
use Rattle.pages.proofs.blank_kept.Goals as goal

pub returns : goal.returns
returns c = blank_kept
