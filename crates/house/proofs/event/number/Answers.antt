-- Eight bytes make the word.
use Rattle.std.proofs.Common.{◌≡◌, ℕ, ◌-◌, ◌<◌, ◌++◌, length, get_or, rules, ◌∙◌}
use borrow.Author.Tests.{tests}
use Rattle.model.specs.Device.{zeros}
use Rattle.house.proofs.Bytes.{padded}
use Rattle.house.proofs.event.number.Goals as goal

pub returns : goal.returns
returns c =
    let bytes = c.args.bytes.now in
    let made = c.from_fn.ensures.items in
    let each : (k : ℕ) → k < 8 → get_or c.from_fn.result k 0 ≡ get_or (zeros (8 - length bytes) ++ bytes) k 0 = λ k l. let (p, q, called) = made.at k 0 l in search (rules, tests) in
    c.from_be_bytes.ensures ∙ padded bytes c.requires c.from_fn.result made.long each
