use Rattle.std.proofs.Common.{sym, ◌∙◌}
use Rattle.host.proofs.Goings.{ends_at, earlier}
use Rattle.host.proofs.machine.Machine.finish_on.Goals as goal

pub returns-in-Some-clause-ends : goal.returns-in-Some-clause-ends
returns-in-Some-clause-ends g c = c.loop.invariant.1 _ _ _ _ (ends_at _ _ _ _ _ _ _ (sym c.answer.ensures ∙ c.in-Some.is))

pub loop-preserved : goal.loop-preserved
loop-preserved g c = (
  c.act_on.ensures.size ∙ c.loop.invariant.0,
  λ answer m' d' r' h. c.loop.invariant.1 answer m' d' r' (earlier _ _ _ _ _ m' _ _ d' _ _ r' answer _ h c.loop.told c.in_ok-told.ensures.after),
)
