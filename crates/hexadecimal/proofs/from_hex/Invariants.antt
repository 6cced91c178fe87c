use Rattle.std.proofs.Common.{◌≡◌, ◌*◌, take, drop, None, vec_items}
use Rattle.hexadecimal.specs.Hex.{unhexed, before}
use Rattle.hexadecimal.proofs.from_hex.Given as goal

abbrev pub invariant-loop-high : goal.invariant-loop-high
invariant-loop-high l = record {
  so_far : unhexed l.text ≡ before (vec_items l.bytes) (unhexed (drop (2 * l.high-index) l.text));
  begun : unhexed (take 2 l.text) ≡ None → l.high-index ≡ 0;
}
