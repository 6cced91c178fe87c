-- The first that is this person's; none, if there is none.
use Rattle.std.proofs.Common.{◌-◌, rules, arith}
use borrow.Author.Tests.{tests}
use Rattle.mailboxes.specs.Directory.{owns}
use Rattle.mailboxes.proofs.Places.{found_in_range}
use Rattle.mailboxes.proofs.directory.Directory.next_box.Goals as goal

pub returns : goal.returns
returns c = found_in_range (owns c.args.self.now.words.now c.args.person) (c.args.self.now.boxes - c.args.from) _ _ _ c.find.result (omega arith) c.find.ensures.ran (λ x b q k. search (rules, tests))
