use Rattle.std.proofs.Common.{arith}
use Rattle.house.specs.Told.{event_meant}
use Rattle.host.proofs.Goings.{told_lent}
use Rattle.host.proofs.machine.Machine.tell.Goals as goal

pub returns : goal.returns
returns c = told_lent _ c.as_mut_slice.result.now _ c.as_mut_slice-2.result.now _ _ (event_meant c.args.event) c.tell.result c.tell.new.memory c.tell.new.out _ _
    c.as_mut_slice.ensures.value c.as_mut_slice-2.ensures.value (omega arith) (omega arith) (omega arith) (omega arith) c.tell.ensures.says
