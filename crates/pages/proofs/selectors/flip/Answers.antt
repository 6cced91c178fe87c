-- An exclusive or with the bit's unit turns it; past the words there is nothing to turn.
use Rattle.std.proofs.Common.{◌/◌, ◌%◌, ◌<◌, get_or, set, sym, ap, ◌∙◌, arith}
use lib.Bits.{bit_xor}
use Rattle.std.proofs.lemmas.Nat.{one_shl}
use Rattle.pages.specs.Bits.{flipped}
use Rattle.pages.proofs.Bits.{xor_is_flipped, flipped_past}
use Rattle.pages.proofs.selectors.flip.Goals as goal

pub returns-then-place-words : goal.returns-then-place-words
unfolding flipped
returns-then-place-words c =
    let word = get_or c.args.words.now (c.args.t / 64) 0 in
    let within : c.args.t % 64 < 64 = omega arith in
    ap
    (set c.args.words.now (c.args.t / 64))
    (ap (bit_xor word) (one_shl (c.args.t % 64) 64 within) ∙ xor_is_flipped word (c.args.t % 64))

pub returns-else-place-words : goal.returns-else-place-words
returns-else-place-words c = sym (flipped_past c.args.words.now c.args.t c.if-place-words.false)
