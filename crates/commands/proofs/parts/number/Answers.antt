-- `number` meets its contract.
use Rattle.std.proofs.Common.{sym}
use Rattle.commands.proofs.Bytes.{all_bytes_typed}
use Rattle.commands.proofs.Laws.{number_short, number_there}
use Rattle.commands.proofs.parts.number.Goals as goal

pub returns-in_err-digits : goal.returns-in_err-digits
returns-in_err-digits c = rw c.from_residual.ensures (sym (number_short c.args.bytes.now c.in_err-digits.ensures.cases))

pub returns : goal.returns
returns c =
    let h = c.in_ok-digits.ensures.cases in
    number_there c.args.bytes.now c.in_ok-digits.digits.now c.in_ok-digits.rest.now c.from_be_bytes.result
    (all_bytes_typed c.args.bytes.now c.type_inv.bytes) h.0 h.1 h.2 c.from_be_bytes.ensures
