-- The lent words are the directory's, and have room for what is counted.
use Rattle.std.proofs.Common.{◌*◌, length, ap, ◌∙◌, arith}
use Rattle.pages.specs.Geometry.{directory_pages}
use Rattle.pages.proofs.Words.{length_part}
use Rattle.house.proofs.Writes.{lent_range}
use Rattle.house.proofs.people.directory.Goals as goal

pub returns : goal.returns
returns c =
    let n = 64 * directory_pages c.args.geometry.now.pages in
    let lent = lent_range c.args.memory.now c.directory_range.result.start c.directory_range.result.end 2272 n c.directory_range.ensures.start c.directory_range.ensures.end in
    let size = ap length lent ∙ length_part c.args.memory.now 2272 n (omega arith) in
    record {
      words_are = c.new.ensures.lent ∙ lent;
      people_are = omega (arith, size);
      boxes_are = omega (arith, size);
    }
