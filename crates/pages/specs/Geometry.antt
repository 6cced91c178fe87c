-- Where things lie on a device of so many pages, P: the header, two areas of selector pages, the twins of each table page, and the bodies.
use Rattle.std.specs.Prelude.{ℕ, ◌+◌, ◌*◌, ◌/◌, min, List}
use Rattle.pages.specs.Bits.{bit}

-- most boxes that a house can have
abbrev pub most_boxes : ℕ → ℕ
most_boxes P = min (P / 2) 16384

-- the directory: 64 people of 12 words, 16 ways of 6, and the boxes of 12, in whole pages of 64 words
abbrev pub people_place : ℕ
people_place = 0

abbrev pub ways_place : ℕ
ways_place = 768

abbrev pub boxes_place : ℕ
boxes_place = 864

abbrev pub directory_pages : ℕ → ℕ
directory_pages P = (boxes_place + 12 * most_boxes P + 63) / 64

-- table pages: the directory, then the slots, of which 8 lie on a page
abbrev pub table_pages : ℕ → ℕ
table_pages P = directory_pages P + (P / 2 + 7) / 8

-- a selector page has 4,096 bits, one for each table page
abbrev pub selector_pages : ℕ → ℕ
selector_pages P = (table_pages P + 4095) / 4096

abbrev pub selector_place : ℕ → ℕ → ℕ → ℕ
selector_place P area q = 1 + area * selector_pages P + q

-- the twin of a table page that the selector bits point at
abbrev pub table_place : ℕ → List ℕ → ℕ → ℕ
table_place P selectors t = 1 + 2 * selector_pages P + 2 * t + bit selectors t

abbrev pub body_place : ℕ → ℕ → ℕ
body_place P b = 1 + 2 * selector_pages P + 2 * table_pages P + b
