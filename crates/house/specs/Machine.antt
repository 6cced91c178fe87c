-- The house as a definition: what one step makes of a memory and an event, and which act it does. Power-up, commit, and the commands join, boxes
-- and new box. What is told out of turn, or to a memory that makes no sense, is refused, and the memory stays as it is.
use Rattle.std.specs.Prelude.{ℕ, ◌+◌, ◌-◌, ◌*◌, ◌/◌, Bool, not, ◌&&◌, List, [], ◌∷◌, ◌++◌, length, is_some, Some, None, Option, ◌==◌, nat_le, nat_lt, slice_index}
use Rattle.model.specs.Mail.{pick, eight}
use Rattle.model.specs.House.{Command, join, hand_in, boxes, new_box, drop_box, list, get, set_mark, to_box, clear, rules, find, push, box_row}
use Rattle.model.specs.Device.{zeros, a_page}
use Rattle.model.specs.Run.{Engine, Event, on, said, page, next, heard, lost, Act, read, write, flush, shows, done, refused, Step}
use Rattle.pages.specs.Words.{words_in, bytes_of, part, patched}
use Rattle.pages.specs.Bits.{touched}
use Rattle.pages.specs.Geometry.{selector_pages, directory_pages, selector_place, table_place}
use Rattle.pages.specs.Touched.{first_touched}
use Rattle.mailboxes.specs.Directory.{person_place, box_place, find_person, find_box, count_boxes, next_box, box_of, with_person, with_box, first_directory}
use Rattle.commands.specs.Reader.{command_of}
use Rattle.house.specs.declared.phase.Phase.{Phase}
use Rattle.house.specs.declared.phase.Phase.TheVariants.{Off, ReadHeader, ReadSelectors, ReadDirectory, Idle, ShowBoxes, WriteTable, WriteSelectors, WriteHeader, FlushHeader, Committed, Shown}
use Rattle.house.specs.Memory.{memory_len, houses_count, pages_count, to_show, header_of, area_of, people_of, boxes_count, weight_of, counting_of, coming_of, directory_of, phase_of, in_phase, sensible}

abbrev pub refuse : ℕ → List ℕ → Step
refuse k m = record { memory = m; act = refused k }

abbrev pub go : Phase → Act → List ℕ → Step
go phase a m = record { memory = in_phase phase m; act = a }

-- the pages that a record of 12 words lies on are to change
unfoldable pub touch_record : ℕ → ℕ → List ℕ → List ℕ
touch_record P at m = patched m 1184 (touched (counting_of P m) (touched (counting_of P m) (coming_of P m) (at / 64)) ((at + 11) / 64))

-- Power: the header is read, then the selector pages of its area, then the directory.
unfoldable pub powered_up : ℕ → ℕ → ℕ → List ℕ → Step
powered_up c n P m =
    pick (length m == memory_len && ((nat_lt c n && nat_le n 16) && (nat_le 256 P && nat_le P 1048576)))
    (record { memory = patched m 0 (1 ∷ 0 ∷ 0 ∷ c ∷ n ∷ P ∷ 0 ∷ []); act = read 0 })
    (refuse 1 m)

-- the first house: one person with one box, nothing free taken, and what is to be kept
unfoldable pub first_house_made : ℕ → List ℕ → List ℕ
first_house_made P m =
    touch_record P (box_place 0) (touch_record P (person_place 0)
    (patched (patched m 64 (1 ∷ 0 ∷ 1 ∷ 1 ∷ 0 ∷ 0 ∷ (776 + 64 * houses_count m) ∷ [])) 2272 (first_directory (directory_of P m))))

-- before the first commit the header's first word is 0
unfoldable pub header_read : ℕ → List ℕ → List ℕ → Step
header_read P p m =
    pick (slice_index (words_in 32 p) 0 == 0) (go Idle done (first_house_made P m))
    (pick (nat_lt (slice_index (words_in 32 p) 1) 2)
    (go (ReadSelectors 0) (read (selector_place P (slice_index (words_in 32 p) 1) 0)) (patched m 64 (words_in 32 p)))
    (refuse 1 m))

abbrev pub with_selectors : ℕ → List ℕ → List ℕ → List ℕ
with_selectors q p m = patched (patched m (96 + 64 * q) (words_in 64 p)) (1184 + 64 * q) (words_in 64 p)

unfoldable pub selectors_read : ℕ → ℕ → List ℕ → List ℕ → Step
selectors_read P q p m =
    pick (nat_lt q (selector_pages P))
    (pick (nat_lt (q + 1) (selector_pages P))
    (go (ReadSelectors (q + 1)) (read (selector_place P (area_of m) (q + 1))) (with_selectors q p m))
    (go (ReadDirectory 0) (read (table_place P (coming_of P (with_selectors q p m)) 0)) (with_selectors q p m)))
    (refuse 1 m)

unfoldable pub directory_read : ℕ → ℕ → List ℕ → List ℕ → Step
directory_read P t p m =
    pick (nat_lt t (directory_pages P))
    (pick (nat_lt (t + 1) (directory_pages P))
    (go (ReadDirectory (t + 1)) (read (table_place P (coming_of P m) (t + 1))) (patched m (2272 + 64 * t) (words_in 64 p)))
    (go Idle done (patched m (2272 + 64 * t) (words_in 64 p))))
    (refuse 1 m)

-- Commit: touched pages of the directory onto their other twins, the selector pages into the other area, a flush, the header, a flush.
abbrev pub selectors_written : ℕ → ℕ → List ℕ → Step
selectors_written P q m =
    go (WriteSelectors (q + 1)) (write (selector_place P (1 - area_of m) q) (bytes_of (part m (1184 + 64 * q) 64))) m

abbrev pub table_written : ℕ → Option ℕ → List ℕ → Step
table_written P None m = selectors_written P 0 m
table_written P (Some t) m =
    go (WriteTable (t + 1)) (write (table_place P (coming_of P m) t) (bytes_of (part m (2272 + 64 * t) 64))) m

unfoldable pub commit : ℕ → ℕ → List ℕ → Step
commit P from m = table_written P (first_touched (counting_of P m) (coming_of P m) from (directory_pages P)) m

unfoldable pub selectors_next : ℕ → ℕ → List ℕ → Step
selectors_next P q m = pick (nat_lt q (selector_pages P)) (selectors_written P q m) (go WriteHeader flush m)

-- the other area is to count
unfoldable pub header_written : List ℕ → Step
header_written m = go FlushHeader (write 0 (bytes_of (header_of (patched m 65 ((1 - area_of m) ∷ []))) ++ zeros 256)) (patched m 65 ((1 - area_of m) ∷ []))

unfoldable pub committed : ℕ → List ℕ → Step
committed P m =
    pick (to_show m == 0) (go Idle done (patched m 96 (coming_of P m)))
    (go Shown (shows (eight (to_show m - 1))) (patched m 96 (coming_of P m)))

-- there is no room: more would be kept than a quarter of the pages holds
unfoldable pub no_room : ℕ → ℕ → List ℕ → Bool
no_room P more m = not (nat_le (weight_of m + more) (128 * P) && nat_le (864 + 12 * (boxes_count m + 1)) (64 * directory_pages P))

-- join: a new person with the box "in"; their number is shown
unfoldable pub person_added : ℕ → List ℕ → List ℕ → List ℕ
person_added P nm m =
    patched (patched (patched
    (touch_record P (box_place (boxes_count m)) (touch_record P (person_place (people_of m))
    (patched m 2272 (with_person (people_of m) (boxes_count m) (directory_of P m) nm))))
    66 ((people_of m + 1) ∷ (boxes_count m + 1) ∷ [])) 70 ((weight_of m + 776) ∷ [])) 6 ((people_of m + 1) ∷ [])

unfoldable pub joins : ℕ → List ℕ → List ℕ → Step
joins P nm m =
    pick (is_some (find_person (people_of m) (directory_of P m) nm)) (refuse 4 m)
    (pick (nat_le 64 (people_of m)) (refuse 7 m)
    (pick (no_room P 776 m) (refuse 8 m) (commit P 0 (person_added P nm m))))

-- new box: an empty one, last
unfoldable pub box_added : ℕ → ℕ → List ℕ → List ℕ → List ℕ
box_added P a nm m =
    patched (patched (patched
    (touch_record P (box_place (boxes_count m)) (patched m 2272 (with_box (boxes_count m) (directory_of P m) a nm)))
    67 ((boxes_count m + 1) ∷ [])) 70 ((weight_of m + 256) ∷ [])) 6 (0 ∷ [])

unfoldable pub makes_box : ℕ → ℕ → List ℕ → List ℕ → Step
makes_box P a nm m =
    pick (nat_lt a (people_of m))
    (pick (is_some (find_box (boxes_count m) (directory_of P m) a nm)) (refuse 4 m)
    (pick (nat_le 256 (count_boxes (boxes_count m) (directory_of P m) a)) (refuse 7 m)
    (pick (no_room P 256 m) (refuse 8 m) (commit P 0 (box_added P a nm m)))))
    (refuse 3 m)

-- boxes: a row for each
abbrev pub box_shown : ℕ → ℕ → Option ℕ → List ℕ → Step
box_shown P a None m = go Idle done m
box_shown P a (Some i) m = go (ShowBoxes a (i + 1)) (shows (box_row (box_of (directory_of P m) i))) m

unfoldable pub shows_boxes : ℕ → ℕ → ℕ → List ℕ → Step
shows_boxes P a from m = box_shown P a (next_box (boxes_count m) (directory_of P m) a from) m

unfoldable pub obeys : ℕ → Option Command → List ℕ → Step
obeys P None m = refuse 1 m
obeys P (Some (join nm)) m = joins P nm m
obeys P (Some (hand_in d a bs)) m = refuse 2 m
obeys P (Some (boxes a)) m = pick (nat_lt a (people_of m)) (shows_boxes P a 0 m) (refuse 3 m)
obeys P (Some (new_box a nm)) m = makes_box P a nm m
obeys P (Some (drop_box a nm)) m = refuse 2 m
obeys P (Some (list a nm i k)) m = refuse 2 m
obeys P (Some (get a nm i j k)) m = refuse 2 m
obeys P (Some (set_mark a nm i k v)) m = refuse 2 m
obeys P (Some (to_box a nm i o)) m = refuse 2 m
obeys P (Some (clear a nm)) m = refuse 2 m
obeys P (Some (rules a rs)) m = refuse 2 m
obeys P (Some (find a nm t)) m = refuse 2 m
obeys P (Some (push d)) m = refuse 2 m

-- a page that was asked for, in a phase that asked for one
unfoldable pub page_told : ℕ → Phase → List ℕ → List ℕ → Step
page_told P Off p m = refuse 1 m
page_told P ReadHeader p m = header_read P p m
page_told P (ReadSelectors q) p m = selectors_read P q p m
page_told P (ReadDirectory t) p m = directory_read P t p m
page_told P Idle p m = refuse 1 m
page_told P (ShowBoxes a i) p m = refuse 1 m
page_told P (WriteTable t) p m = refuse 1 m
page_told P (WriteSelectors q) p m = refuse 1 m
page_told P WriteHeader p m = refuse 1 m
page_told P FlushHeader p m = refuse 1 m
page_told P Committed p m = refuse 1 m
page_told P Shown p m = refuse 1 m

-- the last act is done
unfoldable pub next_told : ℕ → Phase → List ℕ → Step
next_told P Off m = refuse 1 m
next_told P ReadHeader m = refuse 1 m
next_told P (ReadSelectors q) m = refuse 1 m
next_told P (ReadDirectory t) m = refuse 1 m
next_told P Idle m = refuse 1 m
next_told P (ShowBoxes a i) m = shows_boxes P a i m
next_told P (WriteTable t) m = commit P t m
next_told P (WriteSelectors q) m = selectors_next P q m
next_told P WriteHeader m = header_written m
next_told P FlushHeader m = go Committed flush m
next_told P Committed m = committed P m
next_told P Shown m = go Idle done m

-- a command is heard at rest only
unfoldable pub said_told : ℕ → Phase → List ℕ → List ℕ → Step
said_told P Off text m = refuse 1 m
said_told P ReadHeader text m = refuse 1 m
said_told P (ReadSelectors q) text m = refuse 1 m
said_told P (ReadDirectory t) text m = refuse 1 m
said_told P Idle text m = obeys P (command_of text) m
said_told P (ShowBoxes a i) text m = refuse 1 m
said_told P (WriteTable t) text m = refuse 1 m
said_told P (WriteSelectors q) text m = refuse 1 m
said_told P WriteHeader text m = refuse 1 m
said_told P FlushHeader text m = refuse 1 m
said_told P Committed text m = refuse 1 m
said_told P Shown text m = refuse 1 m

abbrev pub stepped : List ℕ → Event → Step
stepped m (on c n P) = powered_up c n P m
stepped m (said text) = pick (sensible m) (said_told (pages_count m) (phase_of m) text m) (refuse 1 m)
stepped m (page p) = pick (sensible m && a_page p) (page_told (pages_count m) (phase_of m) p m) (refuse 1 m)
stepped m next = pick (sensible m) (next_told (pages_count m) (phase_of m) m) (refuse 1 m)
stepped m (heard l) = refuse 1 m
stepped m lost = refuse 1 m

-- the house itself, of which the promise is owed
unfoldable pub own : Engine
own = record { start = zeros memory_len; step = stepped }
