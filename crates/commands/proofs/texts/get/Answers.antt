-- `get` meets its contract.
use Rattle.std.proofs.Common.{sym, refl}
use Rattle.commands.proofs.Meanings.{complete_answers}
use Rattle.commands.proofs.texts.get.Goals as goal

pub returns : goal.returns
returns c =
    rw (sym c.in_ok-person.ensures, sym c.in_ok-number.ensures, sym c.in_ok-from.ensures, sym c.in_ok-count.ensures)
    (complete_answers _ _ c.in_ok-count.rest.now c.complete.result c.complete.ensures refl)
