-- The two pages that a record may lie on.
use Rattle.std.proofs.Common.{arith}
use Rattle.house.proofs.Touches.{record_touched}
use Rattle.house.proofs.commit.touch_record.Goals as goal

pub returns : goal.returns
returns c =
    record_touched c.args.geometry.now.pages c.args.at c.args.memory.now c.touch_page.new.memory c.touch_page-2.new.memory c.args.geometry.now.most (omega arith)
    c.touch_page.ensures c.touch_page-2.ensures
