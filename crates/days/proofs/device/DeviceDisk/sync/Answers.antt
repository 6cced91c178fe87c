use Rattle.std.proofs.Common.{length, ap, ◌∙◌}
use Rattle.days.proofs.Pages.{length_written}
use Rattle.days.proofs.device.DeviceDisk.sync.Goals as goal

pub returns-clause-size : goal.returns-clause-size
returns-clause-size c = ap (λ d. length d.pages) c.flush.ensures ∙ length_written _ _
