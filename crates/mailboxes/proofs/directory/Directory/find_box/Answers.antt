-- The first that is this person's and has the name; none, if there is none.
use Rattle.std.proofs.Common.{◌&&◌, rules, arith}
use borrow.Author.Tests.{tests}
use Rattle.mailboxes.specs.Directory.{named, owns, box_place}
use Rattle.mailboxes.proofs.Records.{named_taken}
use Rattle.mailboxes.proofs.Places.{found_in_range}
use Rattle.mailboxes.proofs.directory.Directory.find_box.Goals as goal

pub returns : goal.returns
returns c =
    let words = c.args.self.now.words.now in
    found_in_range (λ i. owns words c.args.person i && named words (box_place i) c.args.name.now) c.args.self.now.boxes _ _ _ c.find.result (omega arith) c.find.ensures.ran (λ x b q k. search (rules, tests, named_taken))
