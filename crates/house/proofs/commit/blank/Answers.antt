-- Zeros, as the definition has them.
use Rattle.std.proofs.Common.{length, ◌∙◌}
use Rattle.house.proofs.Writes.{replicate_zeros}
use Rattle.house.proofs.commit.blank.Goals as goal

pub returns : goal.returns
returns c = c.fill.ensures.after (λ y h. h) ∙ replicate_zeros (length c.args.bytes.now)
