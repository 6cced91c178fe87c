-- The lowest bit of the word moved down; past the words 0.
use Rattle.std.proofs.Common.{◌≡◌, ◌/◌, ◌%◌, ◌^◌, get_or, rules}
use Rattle.std.proofs.lemmas.Nat.{and_mask}
use Rattle.pages.specs.Bits.{bit, word_bit}
use Rattle.pages.proofs.selectors.bit.Goals as goal

pub returns : goal.returns
unfolding bit word_bit
returns c =
    let word : c.unwrap_or-word.result ≡ get_or c.args.words.now (c.args.t / 64) 0 = search rules in
    rw word (and_mask (get_or c.args.words.now (c.args.t / 64) 0 / 2 ^ (c.args.t % 64)) 1)
