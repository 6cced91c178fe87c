use Rattle.pages.proofs.Atomic.{commit_atomic}
use Rattle.pages.proofs.commit_atomic.Goals as goal

pub returns : goal.returns
returns c = commit_atomic
