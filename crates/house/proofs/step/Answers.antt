-- A kind that there isn't is refused, and the rest is told as an event.
use Rattle.house.proofs.Taken.{unfit_kind, refused_step, told_step}
use Rattle.house.proofs.Whole.{whole}
use Rattle.house.proofs.step.Goals as goal

pub returns-in-Some : goal.returns-in-Some
returns-in-Some c = record { says = told_step _ _ _ _ _ _ _ _ c.in-Some.ensures.0 c.in-Some.ensures.1 c.tell.ensures.says; whole = whole }

pub returns-in-None : goal.returns-in-None
returns-in-None c = record { says = refused_step _ _ _ _ (unfit_kind _ _ _ _ c.in-None.ensures); whole = whole }
