-- The lent record is written, and with it the words.
use Rattle.std.proofs.Common.{ap, ◌∙◌}
use Rattle.pages.specs.Words.{patched}
use Rattle.mailboxes.specs.Directory.{box_record, with_box}
use Rattle.mailboxes.proofs.Records.{length_box_record}
use Rattle.mailboxes.proofs.Writes.{record_put}
use Rattle.mailboxes.proofs.add.add_box.Goals as goal

pub returns-clause-written : goal.returns-clause-written
unfolding with_box box_record
returns-clause-written c =
    let new = box_record c.args.person c.args.name.now in
    record_put c.args.words.now c.box_place-at.result c.copy_from_slice.new.self new (c.copy_from_slice.ensures.after ∙ c.new_record.ensures) (length_box_record c.args.person c.args.name.now)
    ∙ ap (λ at. patched c.args.words.now at new) c.box_place-at.ensures
