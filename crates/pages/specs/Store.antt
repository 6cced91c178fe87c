-- What pages keep: a header, the selector bits that count, and the words of each table page at the twin that counts.
use Rattle.std.specs.Prelude.{◌≡◌, ℕ, ◌*◌, ◌<◌, List, length, take, ◌≢◌, slice_index}
use Rattle.model.specs.Device.{Page, page_at}
use Rattle.pages.specs.Words.{bytes_of, part}
use Rattle.pages.specs.Geometry.{table_pages, selector_pages, selector_place, table_place}

-- an image: 32 words of header, the selector words, and 64 words for each table page
pub record Image : Type 0 where
  pub header : List ℕ
  pub selectors : List ℕ
  pub table : ℕ → List ℕ

-- the header's first words: the version, 0 before the first commit, and the area of selector pages that counts, 0 or 1
abbrev pub version : Image → ℕ
version s = slice_index s.header 0

abbrev pub area : Image → ℕ
area s = slice_index s.header 1

-- the tables lie at the twins that the bits point at
abbrev pub TableKept : ℕ → Image → (ℕ → Page) → Type 0
TableKept P s at = (t : ℕ) → t < table_pages P → at (table_place P s.selectors t) ≡ bytes_of (s.table t)

-- the bits lie in an area of selector pages
abbrev pub SelectorsKept : ℕ → Image → ℕ → (ℕ → Page) → Type 0
SelectorsKept P s a at = (q : ℕ) → q < selector_pages P → at (selector_place P a q) ≡ bytes_of (part s.selectors (64 * q) 64)

-- Pages keep an image: the header in the first half of page 0, which is all of it that means anything. Before the first commit the selector pages
-- mean nothing, and all bits are 0.
pub record Kept (P : ℕ) (s : Image) (ps : List Page) : Type 0 where
  pub sized : length ps ≡ P
  pub header_kept : take 256 (page_at ps 0) ≡ bytes_of s.header
  pub selectors_kept : (version s ≢ 0) → SelectorsKept P s (area s) (page_at ps)
  pub table_kept : TableKept P s (page_at ps)
