-- The record, the page that it lies on, and the registers.
use Rattle.std.proofs.Common.{◌+◌, ◌*◌, [], ◌∷◌, ap, ◌∙◌, arith}
use Rattle.pages.specs.Words.{patched}
use Rattle.pages.specs.Geometry.{directory_pages}
use Rattle.mailboxes.specs.Directory.{box_place}
use Rattle.house.specs.Memory.{boxes_count, weight_of}
use Rattle.house.specs.Machine.{touch_record, box_added}
use Rattle.house.proofs.Registers.{room_says, box_registers, room_there, box_written}
use Rattle.house.proofs.people.add_box.Goals as goal

pub overflow_add-memory-2 : goal.overflow_add-memory-2
overflow_add-memory-2 c = omega (arith, (room_says c.args.geometry.now.pages 256 c.args.memory.now c.requires.1.1).0)

pub unwrap-requires : goal.unwrap-requires
unwrap-requires c =
    let m = c.args.memory.now in
    let P = c.args.geometry.now.pages in
    room_there m (64 * directory_pages P) c.directory_range.result.start c.directory_range.result.end (omega arith) c.directory_range.ensures.start c.directory_range.ensures.end c.directory_range.ensures.most c.add_box.result c.add_box.new.words
    (boxes_count m) c.args.person c.args.name.bytes.now c.requires.1.0 c.args.name.short (room_says P 256 m c.requires.1.1).1 c.add_box.ensures.fits

pub returns : goal.returns
unfolding box_added
returns c =
    let m = c.args.memory.now in
    let P = c.args.geometry.now.pages in
    let put = box_written m (64 * directory_pages P) c.directory_range.result.start c.directory_range.result.end (omega arith) c.directory_range.ensures.start c.directory_range.ensures.end c.directory_range.ensures.most c.add_box.result c.add_box.new.words
    (boxes_count m) c.args.person c.args.name.bytes.now c.requires.1.0 c.args.name.short (room_says P 256 m c.requires.1.1).1 c.add_box.ensures.fits c.add_box.ensures.written in
    box_registers c.touch_record.new.memory (boxes_count m + 1) (weight_of m + 256) 0 (omega arith)
    ∙ ap (λ l. patched (patched (patched l 67 ((boxes_count m + 1) ∷ [])) 70 ((weight_of m + 256) ∷ [])) 6 (0 ∷ [])) (c.touch_record.ensures ∙ ap (touch_record P (box_place (boxes_count m))) put)
