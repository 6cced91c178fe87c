-- The directory: people and boxes as records of 12 words in one long list of words, and the plain house that they stand for. No letters yet.
use Rattle.std.specs.Prelude.{◌≡◌, ℕ, zero, suc, ◌+◌, ◌-◌, ◌*◌, ◌/◌, ◌%◌, ◌<◌, ◌≤◌, Bool, true, ◌&&◌, List, [], ◌∷◌, ◌++◌, length, take, Some, None, Option, ◌==◌, slice_index}
use Rattle.model.specs.Mail.{pick, each, those, same, in_box}
use Rattle.model.specs.House.{Box, Person, House, a_name}
use Rattle.model.specs.Device.{zeros}
use Rattle.model.specs.Run.{so_many}
use Rattle.model.specs.Promise.{master}
use Rattle.pages.specs.Words.{words_in, bytes_of, part, patched}

-- where records begin
abbrev pub person_place : ℕ → ℕ
person_place a = 12 * a

abbrev pub box_place : ℕ → ℕ
box_place i = 864 + 12 * i

-- a name is kept as its length and eight words of its bytes, padded with 0; a record's first word has the owner, too
unfoldable pub name_words : List ℕ → List ℕ
name_words nm = words_in 8 (nm ++ zeros (64 - length nm))

abbrev pub name_record : ℕ → List ℕ → List ℕ
name_record owner nm = (256 * owner + length nm) ∷ name_words nm

-- no rules: their first body, last body and length
unfoldable pub person_record : List ℕ → List ℕ
person_record nm = name_record 0 nm ++ (0 ∷ 0 ∷ 0 ∷ [])

-- an empty box: the number that the next letter gets, how many letters it has, and their first and last slot in one word
unfoldable pub box_record : ℕ → List ℕ → List ℕ
box_record owner nm = name_record owner nm ++ (1 ∷ 0 ∷ 0 ∷ [])

-- reading records
unfoldable pub owner_at : List ℕ → ℕ → ℕ
owner_at dir at = slice_index dir at / 256

unfoldable pub name_at : List ℕ → ℕ → List ℕ
name_at dir at = take (slice_index dir at % 256) (bytes_of (part dir (at + 1) 8))

-- whether a record has a name: equal lengths and equal words
unfoldable pub named : List ℕ → ℕ → List ℕ → Bool
named dir at nm = slice_index dir at % 256 == length nm && same (part dir (at + 1) 8) (name_words nm)

unfoldable pub count_up : ℕ → ℕ → List ℕ
count_up from zero = []
count_up from (suc k) = from ∷ count_up (suc from) k

-- the first of so many places from one on that passes a test
unfoldable pub first : (ℕ → Bool) → ℕ → ℕ → Option ℕ
first p from zero = None
first p from (suc k) = pick (p from) (Some from) (first p (suc from) k)

abbrev pub owns : List ℕ → ℕ → ℕ → Bool
owns dir a i = owner_at dir (box_place i) == a

abbrev pub find_person : ℕ → List ℕ → List ℕ → Option ℕ
find_person people dir nm = first (λ a. named dir (person_place a) nm) 0 people

abbrev pub find_box : ℕ → List ℕ → ℕ → List ℕ → Option ℕ
find_box boxes dir a nm = first (λ i. owns dir a i && named dir (box_place i) nm) 0 boxes

-- the next box of a person, from a place on
abbrev pub next_box : ℕ → List ℕ → ℕ → ℕ → Option ℕ
next_box boxes dir a from = first (owns dir a) from (boxes - from)

abbrev pub count_boxes : ℕ → List ℕ → ℕ → ℕ
count_boxes boxes dir a = length (those (owns dir a) (count_up 0 boxes))

-- the plain house
unfoldable pub box_of : List ℕ → ℕ → Box
box_of dir i = record { name = name_at dir (box_place i); next = slice_index dir (box_place i + 9); letters = [] }

abbrev pub boxes_of : ℕ → List ℕ → ℕ → List Box
boxes_of boxes dir a = each (box_of dir) (those (owns dir a) (count_up 0 boxes))

unfoldable pub person_of : ℕ → List ℕ → ℕ → Person
person_of boxes dir a = record { name = name_at dir (person_place a); boxes = boxes_of boxes dir a; rules = [] }

unfoldable pub house_of : (houses people boxes : ℕ) → List ℕ → House
house_of houses people boxes dir = record {
  people = each (person_of boxes dir) (count_up 0 people);
  ways = so_many houses (record { sent = 0; waiting = [] });
  taken = so_many houses 0;
}

-- a directory that makes sense: every record has a name, every box an owner who is there
pub record Sound (people boxes : ℕ) (dir : List ℕ) : Type 0 where
  pub somebody_there : 1 ≤ people
  pub people_few : people ≤ 64
  pub boxes_fit : 864 + 12 * boxes ≤ length dir
  pub person_named : (a : ℕ) → a < people → (nm : List ℕ) × (a_name nm ≡ true) × (part dir (person_place a) 9 ≡ name_record 0 nm)
  pub box_named : (i : ℕ) → i < boxes → (a : ℕ) × (nm : List ℕ) × (a < people) × (a_name nm ≡ true) × (part dir (box_place i) 9 ≡ name_record a nm)

-- one person more, with a box "in"; and one box more
unfoldable pub with_person : (people boxes : ℕ) → List ℕ → List ℕ → List ℕ
with_person people boxes dir nm = patched (patched dir (person_place people) (person_record nm)) (box_place boxes) (box_record people in_box)

unfoldable pub with_box : (boxes : ℕ) → List ℕ → ℕ → List ℕ → List ℕ
with_box boxes dir a nm = patched dir (box_place boxes) (box_record a nm)

-- the directory at first: the postmaster with the box "in"
unfoldable pub first_directory : List ℕ → List ℕ
first_directory dir = with_person 0 0 dir master
