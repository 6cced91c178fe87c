-- `name` meets its contract.
use Rattle.std.proofs.Common.{rules, leb, length, ◌&&◌}
use Rattle.commands.specs.Reader.{read_name}
use Rattle.commands.proofs.Bytes.{all_bytes_typed}
use Rattle.commands.proofs.Laws.{kept_bytes}
use Rattle.commands.proofs.parts.name.Goals as goal

pub returns : goal.returns
unfolding read_name
returns c = kept_bytes (λ v. leb 1 (length v) && leb (length v) 64) _ c.counted.result _ (all_bytes_typed c.args.bytes.now c.type_inv.bytes) c.counted.ensures (search rules)
