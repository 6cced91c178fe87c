-- The person's record is written, and there is still room for the box.
use Rattle.std.proofs.Common.{sym, ap, ◌∙◌}
use Rattle.pages.specs.Words.{patched}
use Rattle.mailboxes.specs.Directory.{person_record}
use Rattle.mailboxes.proofs.Records.{length_person_record}
use Rattle.mailboxes.proofs.Room.{person_added, ok_asks, ok_no_error}
use Rattle.mailboxes.proofs.Writes.{record_put}
use Rattle.mailboxes.proofs.add.add_person.Goals as goal

pub returns : goal.returns
unfolding person_record
returns c =
    let words = c.args.words.now in
    let nm = c.args.name.now in
    let put = record_put words c.person_place-at.result c.copy_from_slice.new.self (person_record nm) (c.copy_from_slice.ensures.after ∙ c.new_record.ensures) (length_person_record nm)
    ∙ ap (λ at. patched words at (person_record nm)) c.person_place-at.ensures in
    let (done, new) = person_added words c.args.people c.args.boxes nm _ c.add_box.new.words c.add_box.result (sym c.if-not-has_room.ensures) put c.add_box.ensures.fits c.add_box.ensures.written in
    record {
      fits = done ∙ c.if-not-has_room.ensures;
      written = ok_asks c.add_box.result done new;
      kept = ok_no_error _ c.add_box.result done;
    }
