-- The words that are to count come over those that counted.
use Rattle.std.proofs.Common.{◌*◌, ◌≤◌, ◌∙◌, arith}
use Rattle.pages.specs.Geometry.{selector_pages}
use Rattle.house.proofs.Touches.{selector_words_most}
use Rattle.house.proofs.Writes.{copied}
use Rattle.house.proofs.commit.count_coming.Goals as goal

pub returns : goal.returns
returns c =
    let n = 64 * selector_pages c.args.geometry.now.pages in
    let few : n ≤ 1088 = selector_words_most c.args.geometry.now.pages c.args.geometry.now.most in
    c.copy_within.ensures.after ∙ copied c.args.memory.now 1184 96 c.selector_words.result n c.selector_words.ensures.is (omega arith)
