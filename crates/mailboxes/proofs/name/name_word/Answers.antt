-- Eight bytes of the padded name make its word.
use Rattle.std.proofs.Common.{◌≡◌, ℕ, ◌+◌, ◌*◌, ◌<◌, get_or, rules, ◌∙◌}
use borrow.Author.Tests.{tests}
use Rattle.mailboxes.proofs.Names.{word_of_name}
use Rattle.mailboxes.proofs.name.name_word.Goals as goal

pub returns : goal.returns
returns c =
    let made = c.from_fn.ensures.items in
    let each : (k : ℕ) → k < 8 → get_or c.from_fn.result k 0 ≡ get_or c.args.name.now (8 * c.args.i + k) 0 = λ k l. let (p, q, called) = made.at k 0 l in search (rules, tests) in
    c.from_be_bytes.ensures ∙ word_of_name c.args.name.now c.args.i c.requires c.from_fn.result made.long each
