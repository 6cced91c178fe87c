-- What reading a command promises: a command is read just where it is said.
use Rattle.std.specs.Prelude.{◌≡◌, ℕ, List, Some, None}
use Rattle.model.specs.House.{Command}
use Rattle.model.specs.Promise.{Never, Said}
use Rattle.commands.specs.Reader.{command_of}

unfoldable pub Reads : Type 0
Reads =
    (text : List ℕ)
    → ((a : Command) → command_of text ≡ Some a → Said text a)
    × ((a : Command) → Said text a → command_of text ≡ Some a)
    × (command_of text ≡ None → (a : Command) → Said text a → Never)
    × (((a : Command) → Said text a → Never) → command_of text ≡ None)
