-- `counted` meets its contract.
use Rattle.std.proofs.Common.{sym}
use Rattle.commands.specs.Reader.{read_counted}
use Rattle.commands.proofs.Laws.{split_first_bytes}
use Rattle.commands.proofs.parts.counted.Goals as goal

pub returns : goal.returns
unfolding read_counted
returns c =
    rw (sym c.in_ok-count.ensures) (split_first_bytes c.split_at_checked.result c.in_ok-count.count c.in_ok-count.rest.now c.split_at_checked.ensures.cases)
