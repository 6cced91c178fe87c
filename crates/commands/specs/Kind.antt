-- The byte that each kind of command, of test and of action begins with, and what a byte stands for.
use Rattle.std.specs.Prelude.{◌≡◌, ℕ, ◌<◌, List, codes, Result, MatchResult}
use Rattle.commands.specs.declared.kind.Kind.{Kind}
use Rattle.commands.specs.declared.kind.Kind.TheVariants.{Join, HandIn, Boxes, NewBox, DropBox, List as Listing, Get, SetMark, ToBox, Clear, Rules, Find, Push}
use Rattle.commands.specs.declared.kind.UnknownKind.{UnknownKind}
use Rattle.commands.specs.declared.rules.TestKind.{TestKind}
use Rattle.commands.specs.declared.rules.TestKind.TheVariants.{Always, FieldHas, FieldIs, Longer, Marked, Neither, Both, Either}
use Rattle.commands.specs.declared.rules.ActionKind.{ActionKind}
use Rattle.commands.specs.declared.rules.ActionKind.TheVariants.{Keep, File, Away, OnTo, Mark, Halt}

abbrev pub byte_of : Kind → ℕ
byte_of Join = 1
byte_of HandIn = 2
byte_of Boxes = 3
byte_of NewBox = 4
byte_of DropBox = 5
byte_of Listing = 6
byte_of Get = 7
byte_of SetMark = 8
byte_of ToBox = 9
byte_of Clear = 10
byte_of Rules = 11
byte_of Find = 12
byte_of Push = 13

-- what people say for a kind
abbrev pub word_of : Kind → List ℕ
word_of Join = codes "join"
word_of HandIn = codes "hand in"
word_of Boxes = codes "boxes"
word_of NewBox = codes "new box"
word_of DropBox = codes "drop box"
word_of Listing = codes "list"
word_of Get = codes "get"
word_of SetMark = codes "mark"
word_of ToBox = codes "to box"
word_of Clear = codes "clear"
word_of Rules = codes "rules"
word_of Find = codes "find"
word_of Push = codes "push"

-- the kind that begins with this byte, or an error where none does
abbrev pub Decodes : ℕ → Result Kind UnknownKind → Type 0
Decodes byte r = MatchResult r (λ kind. byte_of kind ≡ byte) (λ e. (e.0 ≡ byte) × (0 < byte → 13 < byte))

abbrev pub test_byte : TestKind → ℕ
test_byte Always = 0
test_byte FieldHas = 1
test_byte FieldIs = 2
test_byte Longer = 3
test_byte Marked = 4
test_byte Neither = 5
test_byte Both = 6
test_byte Either = 7

abbrev pub DecodesTest : ℕ → Result TestKind UnknownKind → Type 0
DecodesTest byte r = MatchResult r (λ kind. test_byte kind ≡ byte) (λ e. (e.0 ≡ byte) × (7 < byte))

abbrev pub action_byte : ActionKind → ℕ
action_byte Keep = 0
action_byte File = 1
action_byte Away = 2
action_byte OnTo = 3
action_byte Mark = 4
action_byte Halt = 5

abbrev pub DecodesAction : ℕ → Result ActionKind UnknownKind → Type 0
DecodesAction byte r = MatchResult r (λ kind. action_byte kind ≡ byte) (λ e. (e.0 ≡ byte) × (5 < byte))
