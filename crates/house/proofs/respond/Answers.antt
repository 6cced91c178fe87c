-- Each event is told to the function for it.
use Rattle.std.proofs.Common.{refl, ap, inl, inr}
use Rattle.house.specs.Machine.{own, stepped}
use Rattle.house.specs.Told.{event_meant}
use Rattle.house.proofs.Acts.{does_as, refused_does}
use Rattle.house.proofs.respond.Goals as goal

pub returns-in-Power-clause-says : goal.returns-in-Power-clause-says
unfolding own
returns-in-Power-clause-says c = does_as _ _ _ _ (ap (λ e. stepped c.args.memory.now (event_meant e)) c.in-Power.is) (c.begin.ensures.0, c.begin.ensures.1 c.args.out.now)

pub returns-in-Said-clause-says : goal.returns-in-Said-clause-says
unfolding own
returns-in-Said-clause-says c = does_as _ _ _ _ (ap (λ e. stepped c.args.memory.now (event_meant e)) c.in-Said.is) c.told_command.ensures

pub returns-in-Page-clause-says : goal.returns-in-Page-clause-says
unfolding own
returns-in-Page-clause-says c = does_as _ _ _ _ (ap (λ e. stepped c.args.memory.now (event_meant e)) c.in-Page.is) (c.told_page.ensures.0, c.told_page.ensures.1 c.args.out.now)

pub returns-in-Next-clause-says : goal.returns-in-Next-clause-says
unfolding own
returns-in-Next-clause-says c = does_as _ _ _ _ (ap (λ e. stepped c.args.memory.now (event_meant e)) c.in-Next.is) c.told_next.ensures

pub returns-in-Heard-clause-says : goal.returns-in-Heard-clause-says
unfolding own
returns-in-Heard-clause-says c =
    elim c.in-Heard.is [
      | inl h ↦ refused_does c.args.memory.now c.args.out.now 1 1 refl (ap (λ e. stepped c.args.memory.now (event_meant e)) h.1)
      | inr h ↦ refused_does c.args.memory.now c.args.out.now 1 1 refl (ap (λ e. stepped c.args.memory.now (event_meant e)) h)
    ]
