-- The bit is turned, or has been already.
use Rattle.std.proofs.Common.{◌*◌, arith}
use Rattle.pages.specs.Geometry.{selector_pages}
use Rattle.house.proofs.Touches.{page_turned}
use Rattle.house.proofs.commit.touch_page.Goals as goal

pub returns : goal.returns
returns c =
    page_turned c.args.memory.now _ _ _ (64 * selector_pages c.args.geometry.now.pages) _ c.args.t (omega arith) c.selector_words-words.ensures.is c.selector_words-words.ensures.most
    c.split_at_mut-front.ensures.front c.split_at_mut-front.ensures.back c.touch.ensures
