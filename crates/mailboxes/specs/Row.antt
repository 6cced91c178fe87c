-- The row that shows a box, from its record: its name with its length before it, the number that the next letter gets, and how many letters there are, none.
use Rattle.std.specs.Prelude.{ℕ, ◌+◌, Bool, ◌&&◌, List, ◌++◌, length, drop, Some, None, Option, nat_le, nat_lt, slice_index}
use Rattle.model.specs.Mail.{pick, with_length, eight}
use Rattle.model.specs.House.{box_row}
use Rattle.mailboxes.specs.Directory.{name_at, box_of}

abbrev pub row_at : List ℕ → ℕ → List ℕ
row_at dir at = with_length (name_at dir at) ++ eight (slice_index dir (at + 9)) ++ eight 0

-- whether there is such a box, and room for its row
abbrev pub row_fits : (boxes : ℕ) → List ℕ → ℕ → List ℕ → Bool
row_fits boxes dir i out = nat_lt i boxes && nat_le (length (box_row (box_of dir i))) (length out)

-- what is said of a row that was to be written over the front of others' bytes, and the bytes then
abbrev pub row_said : Bool → List ℕ → Option ℕ
row_said fits row = pick fits (Some (length row)) None

abbrev pub row_over : Bool → List ℕ → List ℕ → List ℕ
row_over fits row out = pick fits (row ++ drop (length row) out) out
