-- `letter` meets its contract.
use Rattle.std.proofs.Common.{rules, leb, length}
use Rattle.commands.specs.Reader.{read_letter}
use Rattle.commands.proofs.Bytes.{all_bytes_typed}
use Rattle.commands.proofs.Laws.{kept_bytes}
use Rattle.commands.proofs.parts.letter.Goals as goal

pub returns : goal.returns
unfolding read_letter
returns c = kept_bytes (λ v. leb (length v) 65000) _ c.counted.result _ (all_bytes_typed c.args.bytes.now c.type_inv.bytes) c.counted.ensures (search rules)
