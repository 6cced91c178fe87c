-- The memory of a house: which numbers of it hold what.
use Rattle.std.specs.Prelude.{ℕ, ◌+◌, ◌*◌, Bool, cond, ◌&&◌, List, [], ◌∷◌, length, ◌==◌, nat_le, nat_lt, slice_index}
use Rattle.pages.specs.Words.{part, patched}
use Rattle.pages.specs.Geometry.{selector_pages, directory_pages}
use Rattle.house.specs.declared.phase.Phase.{Phase}
use Rattle.house.specs.declared.phase.Phase.TheVariants.{Off, ReadHeader, ReadSelectors, ReadDirectory, Idle, ShowBoxes, WriteTable, WriteSelectors, WriteHeader, FlushHeader, Committed, Shown}

-- how many numbers there are: as many as there may ever be
abbrev pub memory_len : ℕ
memory_len = 262144

-- registers: the phase in three numbers, the house's number, how many houses and pages there are, and what is shown after a commit
abbrev pub house_number : List ℕ → ℕ
house_number m = slice_index m 3

abbrev pub houses_count : List ℕ → ℕ
houses_count m = slice_index m 4

abbrev pub pages_count : List ℕ → ℕ
pages_count m = slice_index m 5

-- 0 for nothing, or one more than the number
abbrev pub to_show : List ℕ → ℕ
to_show m = slice_index m 6

-- the header's 32 words
abbrev pub header_of : List ℕ → List ℕ
header_of m = part m 64 32

abbrev pub area_of : List ℕ → ℕ
area_of m = slice_index m 65

abbrev pub people_of : List ℕ → ℕ
people_of m = slice_index m 66

abbrev pub boxes_count : List ℕ → ℕ
boxes_count m = slice_index m 67

abbrev pub weight_of : List ℕ → ℕ
weight_of m = slice_index m 70

-- the selector words that count, those that are to count after the next commit, and the directory
abbrev pub counting_of : ℕ → List ℕ → List ℕ
counting_of P m = part m 96 (64 * selector_pages P)

abbrev pub coming_of : ℕ → List ℕ → List ℕ
coming_of P m = part m 1184 (64 * selector_pages P)

abbrev pub directory_of : ℕ → List ℕ → List ℕ
directory_of P m = part m 2272 (64 * directory_pages P)

-- the phase in the first three registers
abbrev pub phase_in : ℕ → ℕ → ℕ → Phase
phase_in tag x y =
    cond (tag == 1) ReadHeader (cond (tag == 2) (ReadSelectors x) (cond (tag == 3) (ReadDirectory x) (cond (tag == 4) Idle
    (cond (tag == 5) (ShowBoxes x y) (cond (tag == 6) (WriteTable x) (cond (tag == 7) (WriteSelectors x) (cond (tag == 8) WriteHeader
    (cond (tag == 9) FlushHeader (cond (tag == 10) Committed (cond (tag == 11) Shown Off))))))))))

abbrev pub phase_of : List ℕ → Phase
phase_of m = phase_in (slice_index m 0) (slice_index m 1) (slice_index m 2)

abbrev pub phase_words : Phase → List ℕ
phase_words Off = 0 ∷ 0 ∷ 0 ∷ []
phase_words ReadHeader = 1 ∷ 0 ∷ 0 ∷ []
phase_words (ReadSelectors q) = 2 ∷ q ∷ 0 ∷ []
phase_words (ReadDirectory t) = 3 ∷ t ∷ 0 ∷ []
phase_words Idle = 4 ∷ 0 ∷ 0 ∷ []
phase_words (ShowBoxes a i) = 5 ∷ a ∷ i ∷ []
phase_words (WriteTable t) = 6 ∷ t ∷ 0 ∷ []
phase_words (WriteSelectors q) = 7 ∷ q ∷ 0 ∷ []
phase_words WriteHeader = 8 ∷ 0 ∷ 0 ∷ []
phase_words FlushHeader = 9 ∷ 0 ∷ 0 ∷ []
phase_words Committed = 10 ∷ 0 ∷ 0 ∷ []
phase_words Shown = 11 ∷ 0 ∷ 0 ∷ []

abbrev pub in_phase : Phase → List ℕ → List ℕ
in_phase ph m = patched m 0 (phase_words ph)

-- a memory that a step can work on: long enough, with counts that its regions have room for
unfoldable pub sensible : List ℕ → Bool
sensible m =
    (length m == memory_len && (nat_le 256 (pages_count m) && nat_le (pages_count m) 1048576))
    && ((nat_le (houses_count m) 16 && nat_lt (area_of m) 2) && (nat_le (people_of m) 64 && nat_le (864 + 12 * boxes_count m) (64 * directory_pages (pages_count m))))
