-- The owner in the record is the owner in the directory.
use Rattle.std.proofs.Common.{eqb, ap, ◌∙◌}
use Rattle.mailboxes.specs.Directory.{box_place}
use Rattle.mailboxes.proofs.Records.{owner_taken}
use Rattle.mailboxes.proofs.directory.Directory.owns.Goals as goal

pub returns : goal.returns
returns c =
    ap (λ o. eqb o c.args.person) (c.owner.ensures ∙ owner_taken c.args.self.now.words.now (box_place c.args.index) c.box_record.result.words.now c.box_record.ensures)
