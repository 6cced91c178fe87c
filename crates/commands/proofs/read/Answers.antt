-- `read` meets its contract.
use Rattle.commands.proofs.Commands.{reads, spelled_once}
use Rattle.commands.proofs.read.Goals as goal

pub returns : goal.returns
returns c = record { answers = c.command.ensures; reads = reads; spelled_once = spelled_once }
