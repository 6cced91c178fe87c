-- The lines of a letter's head, and the value in a line of a field.
use Rattle.std.specs.Prelude.{◌≡◌, ℕ, ◌+◌, ◌<◌, Bool, true, List, [], ◌∷◌, ◌++◌, length, drop}
use Rattle.model.specs.Mail.{smalls, head_lines, starts_with, no_blanks, field}
use Rattle.header.specs.declared.head.Lines.{Lines}
use Rattle.header.specs.declared.head.Values.{Values}

abbrev pub lines_of : List ℕ → List (List ℕ)
lines_of bs = head_lines (length bs) bs

-- what each walk has left
abbrev pub lines_left : Lines → List (List ℕ)
lines_left walk = lines_of walk.left.now

abbrev pub values_left : Values → List (List ℕ)
values_left walk = field walk.name.now walk.lines.left.now

-- whether a line is one of the field
abbrev pub of_field : (name line : List ℕ) → Bool
of_field name line = starts_with (smalls name ++ 58 ∷ []) (smalls line)

-- the value in a line of the field, with its letters as they stand
pub record LineValue (name line value : List ℕ) : Type 0 where
  pub named : of_field name line ≡ true
  pub value_is : value ≡ no_blanks (drop (1 + length name) line)
  pub shorter : length value < length line
