-- There is such a box, so all hangs on the room for its row.
use Rattle.std.proofs.Common.{◌∙◌, ap₂}
use Rattle.mailboxes.specs.Row.{row_said, row_over}
use Rattle.mailboxes.proofs.Rows.{row_of_box, row_of_box_fits}
use Rattle.mailboxes.proofs.directory.Directory.box_row.Goals as goal

pub returns : goal.returns
returns c =
    let row = row_of_box c.args.self.now.boxes c.args.self.now.words.now c.args.index c.box_record.result.words.now c.box_record.ensures in
    let room = row_of_box_fits c.args.self.now.boxes c.args.self.now.words.now c.args.index c.box_record.result.words.now c.box_record.ensures c.args.out.now c.if-index-self.false in
    record {
      says = c.put_row.ensures.says ∙ ap₂ row_said room row;
      written = c.put_row.ensures.written ∙ ap₂ (λ t r. row_over t r c.args.out.now) room row;
    }
