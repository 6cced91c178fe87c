use Rattle.std.proofs.Common.{refl}
use Rattle.host.proofs.Waking.{at_start}
use Rattle.host.proofs.machine.Machine.new.Goals as goal

pub returns : goal.returns
returns c = at_start _ 262144 (c.in_ok-memory.ensures.items_if_clones_equal (λ y q. q)) refl
