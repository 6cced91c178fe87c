-- What a command over lent bytes means, as a command of the plain houses.
use Rattle.std.specs.Prelude.{◌≡◌, ℕ, List, Some, Option}
use Rattle.std.specs.Borrow.{Bor}
use Rattle.std.specs.Option.{option_map}
use Rattle.model.specs.House.{Command, join, hand_in, boxes, new_box, drop_box, list, get, set_mark, to_box, clear, rules, find, push}
use Rattle.commands.specs.declared.Command.{Command as Held}
use Rattle.commands.specs.declared.Command.TheVariants.{Join, HandIn, Boxes, NewBox, DropBox, List as ListBox, Get, SetMark, ToBox, Clear, Rules, Find, Push}
use Rattle.commands.specs.declared.kind.Kind.{Kind}
use Rattle.commands.specs.declared.kind.Kind.TheVariants as Of
use Rattle.commands.specs.Reader.{whole, read_rules, read_test}

-- a command over lent bytes
abbrev pub Lent : Type 0
Lent = Held (Bor (List ℕ))

-- none if the bytes that are to spell rules or a test spell none
abbrev pub meaning : Lent → Option Command
meaning (Join name) = Some (join name.now)
meaning (HandIn house person letter) = Some (hand_in house person letter.now)
meaning (Boxes person) = Some (boxes person)
meaning (NewBox person name) = Some (new_box person name.now)
meaning (DropBox person name) = Some (drop_box person name.now)
meaning (ListBox person mailbox from count) = Some (list person mailbox.now from count)
meaning (Get person mailbox number from count) = Some (get person mailbox.now number from count)
meaning (SetMark person mailbox number mark on) = Some (set_mark person mailbox.now number mark on)
meaning (ToBox person mailbox number other) = Some (to_box person mailbox.now number other.now)
meaning (Clear person mailbox) = Some (clear person mailbox.now)
meaning (Rules person spelled) = option_map (rules person) (whole read_rules spelled.now)
meaning (Find person mailbox spelled) = option_map (find person mailbox.now) (whole (read_test 4) spelled.now)
meaning (Push house) = Some (push house)

-- an answer of the code is that of the definition: none for none, or else a command that means it
abbrev pub Answers : Option Lent → Option Command → Type 0
Answers r o = option_map meaning r ≡ option_map Some o

-- the kind that a command has, whatever else is in it
abbrev pub kind_of : {B : Type 0} → Held B → Kind
kind_of (Join name) = Of.Join
kind_of (HandIn house person letter) = Of.HandIn
kind_of (Boxes person) = Of.Boxes
kind_of (NewBox person name) = Of.NewBox
kind_of (DropBox person name) = Of.DropBox
kind_of (ListBox person mailbox from count) = Of.List
kind_of (Get person mailbox number from count) = Of.Get
kind_of (SetMark person mailbox number mark on) = Of.SetMark
kind_of (ToBox person mailbox number other) = Of.ToBox
kind_of (Clear person mailbox) = Of.Clear
kind_of (Rules person spelled) = Of.Rules
kind_of (Find person mailbox spelled) = Of.Find
kind_of (Push house) = Of.Push
