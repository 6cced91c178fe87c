-- The first who has the name; nobody, if none has.
use Rattle.std.proofs.Common.{rules, arith}
use borrow.Author.Tests.{tests}
use Rattle.mailboxes.specs.Directory.{named, person_place}
use Rattle.mailboxes.proofs.Records.{named_taken}
use Rattle.mailboxes.proofs.Places.{found_in_range}
use Rattle.mailboxes.proofs.directory.Directory.find_person.Goals as goal

pub returns : goal.returns
returns c = found_in_range (λ a. named c.args.self.now.words.now (person_place a) c.args.name.now) c.args.self.now.people _ _ _ c.find.result (omega arith) c.find.ensures.ran (λ x b q k. search (rules, tests, named_taken))
