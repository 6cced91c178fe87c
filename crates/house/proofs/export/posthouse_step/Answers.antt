use Rattle.house.proofs.Taken.{not_exported, exported}
use Rattle.house.proofs.export.posthouse_step.Goals as goal

pub returns-in_default : goal.returns-in_default
returns-in_default c = not_exported _ _ _ _ _ c.in_default.ensures.cases

pub returns : goal.returns
returns c = exported _ _ _ _ _ c.step.result _ _ _ c.in-Some.ensures.cases.long c.step.ensures.says c.into-tag.ensures
