-- The records, the pages that they lie on, and the registers.
use Rattle.std.proofs.Common.{◌+◌, ◌*◌, [], ◌∷◌, ap, ◌∙◌, arith}
use Rattle.pages.specs.Words.{patched}
use Rattle.pages.specs.Geometry.{directory_pages}
use Rattle.mailboxes.specs.Directory.{person_place, box_place}
use Rattle.house.specs.Memory.{people_of, boxes_count, weight_of}
use Rattle.house.specs.Machine.{touch_record, person_added}
use Rattle.house.proofs.Registers.{room_says, person_registers, room_there, person_written}
use Rattle.house.proofs.people.add_person.Goals as goal

pub overflow_add-memory-3 : goal.overflow_add-memory-3
overflow_add-memory-3 c = omega (arith, (room_says c.args.geometry.now.pages 776 c.args.memory.now c.requires.1.1).0)

pub unwrap-requires : goal.unwrap-requires
unwrap-requires c =
    let m = c.args.memory.now in
    let P = c.args.geometry.now.pages in
    room_there m (64 * directory_pages P) c.directory_range.result.start c.directory_range.result.end (omega arith) c.directory_range.ensures.start c.directory_range.ensures.end c.directory_range.ensures.most c.add_person.result c.add_person.new.words
    (boxes_count m) (people_of m) c.args.name.bytes.now c.requires.1.0 c.args.name.short (room_says P 776 m c.requires.1.1).1 c.add_person.ensures.fits

pub returns : goal.returns
unfolding person_added
returns c =
    let m = c.args.memory.now in
    let P = c.args.geometry.now.pages in
    let put = person_written m (64 * directory_pages P) c.directory_range.result.start c.directory_range.result.end (omega arith) c.directory_range.ensures.start c.directory_range.ensures.end c.directory_range.ensures.most c.add_person.result c.add_person.new.words
    (people_of m) (boxes_count m) c.args.name.bytes.now c.requires.1.0 c.args.name.short (room_says P 776 m c.requires.1.1).1 c.add_person.ensures.fits c.add_person.ensures.written in
    person_registers c.touch_record-2.new.memory (people_of m + 1) (boxes_count m + 1) (weight_of m + 776) (people_of m + 1) (omega arith)
    ∙ ap (λ l. patched (patched (patched l 66 ((people_of m + 1) ∷ (boxes_count m + 1) ∷ [])) 70 ((weight_of m + 776) ∷ [])) 6 ((people_of m + 1) ∷ []))
    (c.touch_record-2.ensures ∙ ap (touch_record P (box_place (boxes_count m))) (c.touch_record.ensures ∙ ap (touch_record P (person_place (people_of m))) put))
