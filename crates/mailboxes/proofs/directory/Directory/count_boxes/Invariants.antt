-- The boxes passed are counted.
use Rattle.std.proofs.Common.{◌≡◌}
use Rattle.mailboxes.specs.Directory.{count_boxes}
use Rattle.mailboxes.proofs.directory.Directory.count_boxes.Given as goal

abbrev pub invariant-loop-index : goal.invariant-loop-index
invariant-loop-index l = l.count ≡ count_boxes l.index l.self.words.now l.person
