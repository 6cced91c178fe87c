use Rattle.std.proofs.Common.{arith}
use Rattle.host.proofs.Waking.{at_start, woken}
use Rattle.host.proofs.machine.Machine.wake.Goals as goal

pub returns : goal.returns
returns c = woken _ _ _ _ _ _ (at_start _ _ (c.fill.ensures.items (λ y q. q)) (omega arith)) c.tell.ensures
