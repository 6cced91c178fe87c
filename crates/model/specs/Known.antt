-- The sets of commands that a house may know, from none on, widened by one kind of command at a time.
use Rattle.std.specs.Prelude.{◌≡◌, ℕ, Bool, false, ◌==◌}
use Rattle.model.specs.Mail.{or}
use Rattle.model.specs.House.{Command, join, hand_in, boxes, new_box, drop_box, list, get, set_mark, to_box, clear, rules, find, push, core}

-- the kind of a command: the byte that its spelling begins with
abbrev pub kind : Command → ℕ
kind (join n) = 1
kind (hand_in d a bs) = 2
kind (boxes a) = 3
kind (new_box a n) = 4
kind (drop_box a n) = 5
kind (list a n i k) = 6
kind (get a n i j k) = 7
kind (set_mark a n i m v) = 8
kind (to_box a n i o) = 9
kind (clear a n) = 10
kind (rules a rs) = 11
kind (find a n t) = 12
kind (push d) = 13

unfoldable pub nothing : Command → Bool
nothing c = false

-- what was known, and one kind more
unfoldable pub also : ℕ → (Command → Bool) → Command → Bool
also k known c = or (kind c == k) (known c)

-- the small core is reached from nothing by its eight kinds
unfoldable pub CoreFromNothing : Type 0
CoreFromNothing = (c : Command) → also 1 (also 2 (also 3 (also 4 (also 6 (also 7 (also 8 (also 10 nothing))))))) c ≡ core c
