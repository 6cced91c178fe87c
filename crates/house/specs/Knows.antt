-- The commands that this house knows so far: join, boxes and new box.
use Rattle.std.specs.Prelude.{Bool}
use Rattle.model.specs.House.{Command}
use Rattle.model.specs.Known.{also, nothing}

abbrev pub known : Command → Bool
known = also 1 (also 3 (also 4 nothing))
