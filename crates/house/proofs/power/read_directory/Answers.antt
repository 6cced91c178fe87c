-- The place of the twin is asked for.
use Rattle.pages.specs.Geometry.{table_place}
use Rattle.house.specs.Memory.{coming_of}
use Rattle.house.proofs.Acts.{told_read}
use Rattle.house.proofs.power.read_directory.Goals as goal

pub returns : goal.returns
returns c = (c.store.ensures, told_read (table_place c.args.geometry.now.pages (coming_of c.args.geometry.now.pages c.args.memory.now) c.args.t) c.coming_place-place.result c.coming_place-place.ensures)
