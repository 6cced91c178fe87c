-- Each word is the name's.
use Rattle.std.proofs.Common.{◌≡◌, ℕ, ◌<◌, get_or, rules, arith}
use Rattle.std.proofs.lemmas.List.{ext_get_or}
use borrow.Author.Tests.{tests}
use Rattle.mailboxes.specs.Directory.{name_words}
use Rattle.mailboxes.proofs.Records.{length_name_words}
use Rattle.mailboxes.proofs.name.name_words.Goals as goal

pub returns : goal.returns
returns c =
    let made = c.from_fn.ensures.items in
    let words = name_words c.args.name.now in
    let each : (i : ℕ) → i < 8 → get_or c.from_fn.result i 0 ≡ get_or words i 0 = λ i l. let (p, q, called) = made.at i 0 l in search (rules, tests) in
    ext_get_or 0 c.from_fn.result words (omega (arith, made.long, length_name_words c.args.name.now)) (λ i l. each i (omega (arith, made.long)))
