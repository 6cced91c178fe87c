-- Zeros stand before the bytes.
use Rattle.house.proofs.Bytes.{in_zeros, in_bytes}
use Rattle.house.proofs.event.padded_byte.Goals as goal

pub returns-then-k-missing : goal.returns-then-k-missing
returns-then-k-missing c = in_zeros c.args.bytes.now c.requires.0 c.args.k c.if-k-missing.true

pub returns-else-k-missing : goal.returns-else-k-missing
returns-else-k-missing c = in_bytes c.args.bytes.now c.requires.0 c.args.k c.if-k-missing.false
