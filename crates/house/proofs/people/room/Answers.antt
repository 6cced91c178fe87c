-- The weight and the records, one after the other.
use Rattle.house.proofs.Registers.{room_no_weight, room_for_weight}
use Rattle.house.proofs.people.room.Goals as goal

pub returns-then-memory-most : goal.returns-then-memory-most
returns-then-memory-most c =
    room_no_weight c.args.geometry.now.pages c.args.more c.args.memory.now c.page_count-most.result c.page_count-most.ensures c.args.geometry.now.least c.requires.1 c.if-memory-most.true

pub returns : goal.returns
returns c =
    room_for_weight c.args.geometry.now.pages c.args.more c.args.memory.now c.page_count-most.result c.directory_words.result
    c.page_count-most.ensures c.args.geometry.now.least c.requires.1 c.if-memory-most.false c.directory_words.ensures.is
