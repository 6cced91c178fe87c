-- The house keeps its memory's length, and its numbers below 2^64, whatever it is told (steady): function by function of its definition.
use Rattle.std.proofs.Common.{◌≡◌, ℕ, zero, suc, ◌+◌, ◌-◌, ◌*◌, ◌^◌, ◌<◌, ◌≤◌, Bool, true, false, not, ◌&&◌, eqb, ltb, leb, List, [], ◌∷◌, ◌++◌, length, get_or, is_some, Some, None, Option, refl, ◌∙◌, inl, inr, arith, MatchOption}
use Rattle.std.proofs.lemmas.Bool.{and_parts, eqb-true, ltb-true, leb-true, leb-false, true≢false}
use Rattle.model.specs.Mail.{pick, every, all_bytes, eight}
use Rattle.model.specs.House.{Command, join, hand_in, boxes, new_box, drop_box, list, get, set_mark, to_box, clear, rules, find, push, a_name, fits, box_row}
use Rattle.model.specs.Device.{zeros, a_page}
use Rattle.model.specs.Run.{Event, on, said, page, next, heard, lost, Act, read, write, flush, shows, done, Step, all_small, Steady}
use Rattle.model.specs.Promise.{Said}
use Rattle.model.proofs.Places.{pick_both, pick_cases}
use Rattle.pages.specs.Words.{words_in, bytes_of, part, patched}
use Rattle.pages.specs.Geometry.{selector_pages, directory_pages, selector_place, table_place}
use Rattle.pages.specs.Touched.{IsFirst, first_touched, Untouched}
use Rattle.pages.proofs.Words.{length_words_in, all_small_words_in, all_small_part, all_small_cons, all_small_parts, length_zeros}
use Rattle.pages.proofs.Geometry.{selector_pages_most, directory_pages_most, directory_pages_some}
use Rattle.pages.proofs.Touched.{first_touched_says}
use Rattle.mailboxes.specs.Directory.{person_place, box_place, find_person, find_box, count_boxes, next_box, owns, box_of, with_person, with_box, first_directory}
use Rattle.mailboxes.proofs.Places.{First, first_some}
use Rattle.mailboxes.proofs.Changes.{length_with_person, length_with_box, length_first_directory, all_small_with_person, all_small_with_box, all_small_first_directory}
use Rattle.commands.specs.Reader.{command_of}
use Rattle.commands.proofs.Commands.{said_or_not}
use Rattle.house.specs.declared.phase.Phase.{Phase}
use Rattle.house.specs.declared.phase.Phase.TheVariants.{Off, ReadHeader, ReadSelectors, ReadDirectory, Idle, ShowBoxes, WriteTable, WriteSelectors, WriteHeader, FlushHeader, Committed, Shown}
use Rattle.house.specs.Memory.{memory_len, houses_count, pages_count, to_show, header_of, area_of, people_of, boxes_count, weight_of, counting_of, coming_of, directory_of, phase_of, sensible}
use Rattle.house.specs.Machine.{refuse, go, touch_record, powered_up, first_house_made, header_read, with_selectors, selectors_read, directory_read, selectors_written, table_written, commit, selectors_next, header_written, committed, no_room, person_added, joins, box_added, makes_box, box_shown, shows_boxes, obeys, page_told, next_told, said_told, stepped, own}
use Rattle.house.proofs.SteadyParts.{Kept, Keeps, unchanged, then_patched, then_touched, then_phase, one_small, two_small, three_small, SmallPhase, phase_of_small, length_coming, length_directory, Sense, sense}

-- a test is passed, or the event is refused
or_refused : (m : List ℕ) (k : ℕ) (b : Bool) (s : Step) → (b ≡ true → Keeps m s) → Keeps m (pick b s (refuse k m))
or_refused m k b s h = pick_cases (Keeps m) b s (refuse k m) h (λ _. unchanged m)

-- a test is not passed, or the event is refused
refused_or : (m : List ℕ) (k : ℕ) (b : Bool) (s : Step) → (b ≡ false → Keeps m s) → Keeps m (pick b (refuse k m) s)
refused_or m k b s h = pick_cases (Keeps m) b (refuse k m) s (λ _. unchanged m) h

-- a phase with one operand
next_phase : (m m₁ : List ℕ) (ph : Phase) (a : Act) → length m ≡ memory_len → Kept m m₁ → (all_small m ≡ true → SmallPhase ph) → Keeps m (go ph a m₁)
next_phase m m₁ ph a l k s = then_phase m m₁ ph k (omega arith) s

-- what is not denied
really : (b : Bool) → not b ≡ false → b ≡ true
really true h = refl
really false h = absurd (true≢false h)

-- Power.

powered_up_keeps : (c n P : ℕ) (m : List ℕ) → Keeps m (powered_up c n P m)
unfolding powered_up
powered_up_keeps c n P m = or_refused m 1 (eqb (length m) memory_len && ((ltb c n && leb n 16) && (leb 256 P && leb P 1048576)))
    (record { memory = patched m 0 (1 ∷ 0 ∷ 0 ∷ c ∷ n ∷ P ∷ 0 ∷ []); act = read 0 }) (λ h.
    let both = and_parts (eqb (length m) memory_len) ((ltb c n && leb n 16) && (leb 256 P && leb P 1048576)) h in
    let rest = and_parts (ltb c n && leb n 16) (leb 256 P && leb P 1048576) both.1 in
    let houses = and_parts (ltb c n) (leb n 16) rest.0 in
    let pages = and_parts (leb 256 P) (leb P 1048576) rest.1 in
    let long : length m ≡ memory_len = eqb-true (length m) memory_len both.0 in
    let before : c < n = ltb-true c n houses.0 in
    let few : n ≤ 16 = leb-true n 16 houses.1 in
    let most : P ≤ 1048576 = leb-true P 1048576 pages.1 in
    then_patched m m 0 (1 ∷ 0 ∷ 0 ∷ c ∷ n ∷ P ∷ 0 ∷ []) (unchanged m) (omega arith) (λ _.
    all_small_cons 1 (0 ∷ 0 ∷ c ∷ n ∷ P ∷ 0 ∷ []) (omega arith) (all_small_cons 0 (0 ∷ c ∷ n ∷ P ∷ 0 ∷ []) (omega arith)
    (all_small_cons 0 (c ∷ n ∷ P ∷ 0 ∷ []) (omega arith) (all_small_cons c (n ∷ P ∷ 0 ∷ []) (omega arith) (three_small n P 0 (omega arith) (omega arith) (omega arith)))))))

-- The rest is over a memory that makes sense, of so many pages.
module _ (m : List ℕ) (fit : Sense m) where
  abbrev P : ℕ
  P = pages_count m

  first_house_kept : Kept m (first_house_made P m)
  unfolding first_house_made
  first_house_kept =
      let l : length m ≡ memory_len = fit.length_is in
      let e : length (directory_of P m) ≡ 64 * directory_pages P = length_directory P m l in
      let ws : List ℕ = 1 ∷ 0 ∷ 1 ∷ 1 ∷ 0 ∷ 0 ∷ (776 + 64 * houses_count m) ∷ [] in
      let header : Kept m (patched m 64 ws) = then_patched m m 64 ws (unchanged m) (omega arith) (λ _.
      all_small_cons 1 (0 ∷ 1 ∷ 1 ∷ 0 ∷ 0 ∷ (776 + 64 * houses_count m) ∷ []) (omega arith) (all_small_cons 0 (1 ∷ 1 ∷ 0 ∷ 0 ∷ (776 + 64 * houses_count m) ∷ []) (omega arith)
      (all_small_cons 1 (1 ∷ 0 ∷ 0 ∷ (776 + 64 * houses_count m) ∷ []) (omega arith) (all_small_cons 1 (0 ∷ 0 ∷ (776 + 64 * houses_count m) ∷ []) (omega arith)
      (three_small 0 0 (776 + 64 * houses_count m) (omega arith) (omega arith) (omega (arith, fit.houses_few))))))) in
      let long : length (first_directory (directory_of P m)) ≡ 64 * directory_pages P =
      length_first_directory (directory_of P m) (omega (arith, e, directory_pages_some P)) ∙ e in
      let directory : Kept m (patched (patched m 64 ws) 2272 (first_directory (directory_of P m))) =
      then_patched m (patched m 64 ws) 2272 (first_directory (directory_of P m)) header (omega (arith, long, directory_pages_most P))
      (λ s. all_small_first_directory (directory_of P m) (all_small_part m 2272 (64 * directory_pages P) s)) in
      let person = then_touched m (patched (patched m 64 ws) 2272 (first_directory (directory_of P m))) P (person_place 0) directory l fit.pages_most in
      then_touched m (touch_record P (person_place 0) (patched (patched m 64 ws) 2272 (first_directory (directory_of P m)))) P (box_place 0) person l fit.pages_most

  header_read_keeps : (p : List ℕ) → all_bytes p ≡ true → Keeps m (header_read P p m)
  unfolding header_read
  header_read_keeps p bytes =
      let l : length m ≡ memory_len = fit.length_is in
      pick_both (Keeps m) (eqb (get_or (words_in 32 p) 0 0) 0) (go Idle done (first_house_made P m))
      (pick (ltb (get_or (words_in 32 p) 1 0) 2)
      (go (ReadSelectors 0) (read (selector_place P (get_or (words_in 32 p) 1 0) 0)) (patched m 64 (words_in 32 p)))
      (refuse 1 m))
      (next_phase m (first_house_made P m) Idle done l first_house_kept (λ _. three_small 4 0 0 (omega arith) (omega arith) (omega arith)))
      (or_refused m 1 (ltb (get_or (words_in 32 p) 1 0) 2) (go (ReadSelectors 0) (read (selector_place P (get_or (words_in 32 p) 1 0) 0)) (patched m 64 (words_in 32 p))) (λ _.
      next_phase m (patched m 64 (words_in 32 p)) (ReadSelectors 0) (read (selector_place P (get_or (words_in 32 p) 1 0) 0)) l
      (then_patched m m 64 (words_in 32 p) (unchanged m) (omega (arith, length_words_in 32 p)) (λ _. all_small_words_in 32 p bytes))
      (λ _. three_small 2 0 0 (omega arith) (omega arith) (omega arith))))

  selectors_kept : (q : ℕ) (p : List ℕ) → q < selector_pages P → all_bytes p ≡ true → Kept m (with_selectors q p m)
  selectors_kept q p h bytes =
      let l : length m ≡ memory_len = fit.length_is in
      let few : selector_pages P ≤ 17 = selector_pages_most P fit.pages_most in
      then_patched m (patched m (96 + 64 * q) (words_in 64 p)) (1184 + 64 * q) (words_in 64 p)
      (then_patched m m (96 + 64 * q) (words_in 64 p) (unchanged m) (omega (arith, length_words_in 64 p)) (λ _. all_small_words_in 64 p bytes))
      (omega (arith, length_words_in 64 p)) (λ _. all_small_words_in 64 p bytes)

  selectors_read_keeps : (q : ℕ) (p : List ℕ) → all_bytes p ≡ true → Keeps m (selectors_read P q p m)
  unfolding selectors_read
  selectors_read_keeps q p bytes =
      let l : length m ≡ memory_len = fit.length_is in
      or_refused m 1 (ltb q (selector_pages P)) _ (λ h.
      let few : q < selector_pages P = ltb-true q (selector_pages P) h in
      pick_both (Keeps m) (ltb (q + 1) (selector_pages P))
      (go (ReadSelectors (q + 1)) (read (selector_place P (area_of m) (q + 1))) (with_selectors q p m))
      (go (ReadDirectory 0) (read (table_place P (coming_of P (with_selectors q p m)) 0)) (with_selectors q p m))
      (next_phase m (with_selectors q p m) (ReadSelectors (q + 1)) (read (selector_place P (area_of m) (q + 1))) l (selectors_kept q p few bytes)
      (λ _. three_small 2 (q + 1) 0 (omega arith) (omega (arith, selector_pages_most P fit.pages_most)) (omega arith)))
      (next_phase m (with_selectors q p m) (ReadDirectory 0) (read (table_place P (coming_of P (with_selectors q p m)) 0)) l (selectors_kept q p few bytes)
      (λ _. three_small 3 0 0 (omega arith) (omega arith) (omega arith))))

  directory_read_keeps : (t : ℕ) (p : List ℕ) → all_bytes p ≡ true → Keeps m (directory_read P t p m)
  unfolding directory_read
  directory_read_keeps t p bytes =
      let l : length m ≡ memory_len = fit.length_is in
      or_refused m 1 (ltb t (directory_pages P)) _ (λ h.
      let few : t < directory_pages P = ltb-true t (directory_pages P) h in
      let kept : Kept m (patched m (2272 + 64 * t) (words_in 64 p)) =
      then_patched m m (2272 + 64 * t) (words_in 64 p) (unchanged m) (omega (arith, length_words_in 64 p, directory_pages_most P)) (λ _. all_small_words_in 64 p bytes) in
      pick_both (Keeps m) (ltb (t + 1) (directory_pages P))
      (go (ReadDirectory (t + 1)) (read (table_place P (coming_of P m) (t + 1))) (patched m (2272 + 64 * t) (words_in 64 p)))
      (go Idle done (patched m (2272 + 64 * t) (words_in 64 p)))
      (next_phase m (patched m (2272 + 64 * t) (words_in 64 p)) (ReadDirectory (t + 1)) (read (table_place P (coming_of P m) (t + 1))) l kept
      (λ _. three_small 3 (t + 1) 0 (omega arith) (omega (arith, directory_pages_most P)) (omega arith)))
      (next_phase m (patched m (2272 + 64 * t) (words_in 64 p)) Idle done l kept (λ _. three_small 4 0 0 (omega arith) (omega arith) (omega arith))))

  page_told_keeps : (ph : Phase) (p : List ℕ) → all_bytes p ≡ true → Keeps m (page_told P ph p m)
  unfolding page_told
  page_told_keeps Off p bytes = unchanged m
  page_told_keeps ReadHeader p bytes = header_read_keeps p bytes
  page_told_keeps (ReadSelectors q) p bytes = selectors_read_keeps q p bytes
  page_told_keeps (ReadDirectory t) p bytes = directory_read_keeps t p bytes
  page_told_keeps Idle p bytes = unchanged m
  page_told_keeps (ShowBoxes a i) p bytes = unchanged m
  page_told_keeps (WriteTable t) p bytes = unchanged m
  page_told_keeps (WriteSelectors q) p bytes = unchanged m
  page_told_keeps WriteHeader p bytes = unchanged m
  page_told_keeps FlushHeader p bytes = unchanged m
  page_told_keeps Committed p bytes = unchanged m
  page_told_keeps Shown p bytes = unchanged m

  -- Commit, from a memory that was kept so far.

  selectors_written_keeps : (m₁ : List ℕ) (q : ℕ) → Kept m m₁ → q < 17 → Keeps m (selectors_written P q m₁)
  selectors_written_keeps m₁ q k h =
      next_phase m m₁ (WriteSelectors (q + 1)) (write (selector_place P (1 - area_of m₁) q) (bytes_of (part m₁ (1184 + 64 * q) 64))) fit.length_is k
      (λ _. three_small 7 (q + 1) 0 (omega arith) (omega arith) (omega arith))

  table_written_keeps : (m₁ counting coming : List ℕ) (from : ℕ) (o : Option ℕ) → Kept m m₁ →
      MatchOption o (Untouched counting coming from (directory_pages P)) (IsFirst counting coming from (directory_pages P)) → Keeps m (table_written P o m₁)
  table_written_keeps m₁ counting coming from None k c = selectors_written_keeps m₁ 0 k (omega arith)
  table_written_keeps m₁ counting coming from (Some t) k c =
      next_phase m m₁ (WriteTable (t + 1)) (write (table_place P (coming_of P m₁) t) (bytes_of (part m₁ (2272 + 64 * t) 64))) fit.length_is k
      (λ _. three_small 6 (t + 1) 0 (omega arith) (omega (arith, c.before_end, directory_pages_most P)) (omega arith))

  commit_keeps : (m₁ : List ℕ) (from : ℕ) → Kept m m₁ → Keeps m (commit P from m₁)
  unfolding commit
  commit_keeps m₁ from k =
      table_written_keeps m₁ (counting_of P m₁) (coming_of P m₁) from (first_touched (counting_of P m₁) (coming_of P m₁) from (directory_pages P)) k
      (first_touched_says (counting_of P m₁) (coming_of P m₁) from (directory_pages P))

  selectors_next_keeps : (q : ℕ) → Keeps m (selectors_next P q m)
  unfolding selectors_next
  selectors_next_keeps q =
      pick_cases (Keeps m) (ltb q (selector_pages P)) (selectors_written P q m) (go WriteHeader flush m)
      (λ h. selectors_written_keeps m q (unchanged m) (omega (arith, ltb-true q (selector_pages P) h, selector_pages_most P fit.pages_most)))
      (λ _. next_phase m m WriteHeader flush fit.length_is (unchanged m) (λ _. three_small 8 0 0 (omega arith) (omega arith) (omega arith)))

  header_written_keeps : Keeps m (header_written m)
  unfolding header_written
  header_written_keeps =
      let l : length m ≡ memory_len = fit.length_is in
      let m₁ : List ℕ = patched m 65 ((1 - area_of m) ∷ []) in
      next_phase m m₁ FlushHeader (write 0 (bytes_of (header_of m₁) ++ zeros 256)) l
      (then_patched m m 65 ((1 - area_of m) ∷ []) (unchanged m) (omega arith) (λ _. one_small (1 - area_of m) (omega arith)))
      (λ _. three_small 9 0 0 (omega arith) (omega arith) (omega arith))

  committed_keeps : Keeps m (committed P m)
  unfolding committed
  committed_keeps =
      let l : length m ≡ memory_len = fit.length_is in
      let kept : Kept m (patched m 96 (coming_of P m)) =
      then_patched m m 96 (coming_of P m) (unchanged m) (omega (arith, length_coming P m l fit.pages_most, selector_pages_most P fit.pages_most))
      (λ s. all_small_part m 1184 (64 * selector_pages P) s) in
      pick_both (Keeps m) (eqb (to_show m) 0) (go Idle done (patched m 96 (coming_of P m))) (go Shown (shows (eight (to_show m - 1))) (patched m 96 (coming_of P m)))
      (next_phase m (patched m 96 (coming_of P m)) Idle done l kept (λ _. three_small 4 0 0 (omega arith) (omega arith) (omega arith)))
      (next_phase m (patched m 96 (coming_of P m)) Shown (shows (eight (to_show m - 1))) l kept (λ _. three_small 11 0 0 (omega arith) (omega arith) (omega arith)))

  -- Rows of boxes.

  few_boxes : boxes_count m < 16458
  few_boxes = omega (arith, fit.boxes_few, directory_pages_most P)

  box_shown_keeps : (a : ℕ) (o : Option ℕ) → (all_small m ≡ true → a < 2 ^ 64) → ((i : ℕ) → o ≡ Some i → i < boxes_count m) → Keeps m (box_shown P a o m)
  box_shown_keeps a None small found = next_phase m m Idle done fit.length_is (unchanged m) (λ _. three_small 4 0 0 (omega arith) (omega arith) (omega arith))
  box_shown_keeps a (Some i) small found =
      let few : i < boxes_count m = found i refl in
      next_phase m m (ShowBoxes a (i + 1)) (shows (box_row (box_of (directory_of P m) i))) fit.length_is (unchanged m)
      (λ s. three_small 5 a (i + 1) (omega arith) (small s) (omega (arith, few_boxes)))

  shows_boxes_keeps : (a from : ℕ) → (all_small m ≡ true → a < 2 ^ 64) → Keeps m (shows_boxes P a from m)
  unfolding shows_boxes
  shows_boxes_keeps a from small =
      box_shown_keeps a (next_box (boxes_count m) (directory_of P m) a from) small (λ i e.
      let f : First (owns (directory_of P m) a) from (boxes_count m - from) i = first_some (owns (directory_of P m) a) (boxes_count m - from) from i e in
      omega (arith, f.not_before, f.not_past))

  next_told_keeps : (ph : Phase) → (all_small m ≡ true → SmallPhase ph) → Keeps m (next_told P ph m)
  unfolding next_told
  next_told_keeps Off small = unchanged m
  next_told_keeps ReadHeader small = unchanged m
  next_told_keeps (ReadSelectors q) small = unchanged m
  next_told_keeps (ReadDirectory t) small = unchanged m
  next_told_keeps Idle small = unchanged m
  next_told_keeps (ShowBoxes a i) small = shows_boxes_keeps a i (λ s. (all_small_parts a (i ∷ []) (all_small_parts 5 (a ∷ i ∷ []) (small s)).1).0)
  next_told_keeps (WriteTable t) small = commit_keeps m t (unchanged m)
  next_told_keeps (WriteSelectors q) small = selectors_next_keeps q
  next_told_keeps WriteHeader small = header_written_keeps
  next_told_keeps FlushHeader small = next_phase m m Committed flush fit.length_is (unchanged m) (λ _. three_small 10 0 0 (omega arith) (omega arith) (omega arith))
  next_told_keeps Committed small = committed_keeps
  next_told_keeps Shown small = next_phase m m Idle done fit.length_is (unchanged m) (λ _. three_small 4 0 0 (omega arith) (omega arith) (omega arith))

  -- Commands.

  room : (more : ℕ) → no_room P more m ≡ false → (weight_of m + more ≤ 128 * P) × (864 + 12 * (boxes_count m + 1) ≤ 64 * directory_pages P)
  unfolding no_room
  room more h =
      let both = and_parts (leb (weight_of m + more) (128 * P)) (leb (864 + 12 * (boxes_count m + 1)) (64 * directory_pages P)) (really (leb (weight_of m + more) (128 * P) && leb (864 + 12 * (boxes_count m + 1)) (64 * directory_pages P)) h) in
      (leb-true (weight_of m + more) (128 * P) both.0, leb-true (864 + 12 * (boxes_count m + 1)) (64 * directory_pages P) both.1)

  person_added_kept : (nm : List ℕ) → a_name nm ≡ true → people_of m < 64 → no_room P 776 m ≡ false → Kept m (person_added P nm m)
  unfolding person_added
  person_added_kept nm named few free =
      let l : length m ≡ memory_len = fit.length_is in
      let enough = room 776 free in
      let e : length (directory_of P m) ≡ 64 * directory_pages P = length_directory P m l in
      let dir : List ℕ = with_person (people_of m) (boxes_count m) (directory_of P m) nm in
      let long : length dir ≡ 64 * directory_pages P = length_with_person (people_of m) (boxes_count m) (directory_of P m) nm few (omega (arith, e, enough.1)) ∙ e in
      let m₁ : List ℕ = patched m 2272 dir in
      let m₂ : List ℕ = touch_record P (person_place (people_of m)) m₁ in
      let m₃ : List ℕ = touch_record P (box_place (boxes_count m)) m₂ in
      let m₄ : List ℕ = patched m₃ 66 ((people_of m + 1) ∷ (boxes_count m + 1) ∷ []) in
      let m₅ : List ℕ = patched m₄ 70 ((weight_of m + 776) ∷ []) in
      let k₁ : Kept m m₁ = then_patched m m 2272 dir (unchanged m) (omega (arith, long, directory_pages_most P))
      (λ s. all_small_with_person (people_of m) (boxes_count m) (directory_of P m) nm (all_small_part m 2272 (64 * directory_pages P) s) (omega arith) named) in
      let k₂ : Kept m m₂ = then_touched m m₁ P (person_place (people_of m)) k₁ l fit.pages_most in
      let k₃ : Kept m m₃ = then_touched m m₂ P (box_place (boxes_count m)) k₂ l fit.pages_most in
      let k₄ : Kept m m₄ = then_patched m m₃ 66 ((people_of m + 1) ∷ (boxes_count m + 1) ∷ []) k₃ (omega arith)
      (λ _. two_small (people_of m + 1) (boxes_count m + 1) (omega arith) (omega (arith, few_boxes))) in
      let k₅ : Kept m m₅ = then_patched m m₄ 70 ((weight_of m + 776) ∷ []) k₄ (omega arith) (λ _. one_small (weight_of m + 776) (omega (arith, enough.0, fit.pages_most))) in
      then_patched m m₅ 6 ((people_of m + 1) ∷ []) k₅ (omega arith) (λ _. one_small (people_of m + 1) (omega arith))

  joins_keeps : (nm : List ℕ) → a_name nm ≡ true → Keeps m (joins P nm m)
  unfolding joins
  joins_keeps nm named =
      refused_or m 4 (is_some (find_person (people_of m) (directory_of P m) nm)) _ (λ _.
      refused_or m 7 (leb 64 (people_of m)) _ (λ few.
      refused_or m 8 (no_room P 776 m) _ (λ free.
      commit_keeps (person_added P nm m) 0 (person_added_kept nm named (leb-false 64 (people_of m) few) free))))

  box_added_kept : (a : ℕ) (nm : List ℕ) → a < 64 → a_name nm ≡ true → no_room P 256 m ≡ false → Kept m (box_added P a nm m)
  unfolding box_added
  box_added_kept a nm there named free =
      let l : length m ≡ memory_len = fit.length_is in
      let enough = room 256 free in
      let e : length (directory_of P m) ≡ 64 * directory_pages P = length_directory P m l in
      let dir : List ℕ = with_box (boxes_count m) (directory_of P m) a nm in
      let long : length dir ≡ 64 * directory_pages P = length_with_box (boxes_count m) (directory_of P m) a nm (omega (arith, e, enough.1)) ∙ e in
      let m₁ : List ℕ = patched m 2272 dir in
      let m₂ : List ℕ = touch_record P (box_place (boxes_count m)) m₁ in
      let m₃ : List ℕ = patched m₂ 67 ((boxes_count m + 1) ∷ []) in
      let m₄ : List ℕ = patched m₃ 70 ((weight_of m + 256) ∷ []) in
      let k₁ : Kept m m₁ = then_patched m m 2272 dir (unchanged m) (omega (arith, long, directory_pages_most P))
      (λ s. all_small_with_box (boxes_count m) (directory_of P m) a nm (all_small_part m 2272 (64 * directory_pages P) s) (omega arith) named) in
      let k₂ : Kept m m₂ = then_touched m m₁ P (box_place (boxes_count m)) k₁ l fit.pages_most in
      let k₃ : Kept m m₃ = then_patched m m₂ 67 ((boxes_count m + 1) ∷ []) k₂ (omega arith) (λ _. one_small (boxes_count m + 1) (omega (arith, few_boxes))) in
      let k₄ : Kept m m₄ = then_patched m m₃ 70 ((weight_of m + 256) ∷ []) k₃ (omega arith) (λ _. one_small (weight_of m + 256) (omega (arith, enough.0, fit.pages_most))) in
      then_patched m m₄ 6 (0 ∷ []) k₄ (omega arith) (λ _. one_small 0 (omega arith))

  makes_box_keeps : (a : ℕ) (nm : List ℕ) → a_name nm ≡ true → Keeps m (makes_box P a nm m)
  unfolding makes_box
  makes_box_keeps a nm named =
      or_refused m 3 (ltb a (people_of m)) _ (λ there.
      refused_or m 4 (is_some (find_box (boxes_count m) (directory_of P m) a nm)) _ (λ _.
      refused_or m 7 (leb 256 (count_boxes (boxes_count m) (directory_of P m) a)) _ (λ _.
      refused_or m 8 (no_room P 256 m) _ (λ free.
      commit_keeps (box_added P a nm m) 0 (box_added_kept a nm (omega (arith, ltb-true a (people_of m) there, fit.people_few)) named free)))))

  obeys_keeps : (c : Command) → fits c ≡ true → Keeps m (obeys P (Some c) m)
  unfolding obeys fits
  obeys_keeps (join nm) h = joins_keeps nm h
  obeys_keeps (hand_in d a bs) h = unchanged m
  obeys_keeps (boxes a) h = or_refused m 3 (ltb a (people_of m)) (shows_boxes P a 0 m) (λ _. shows_boxes_keeps a 0 (λ _. omega (arith, ltb-true a 64 h)))
  obeys_keeps (new_box a nm) h = makes_box_keeps a nm (and_parts (ltb a 64) (a_name nm) h).1
  obeys_keeps (drop_box a nm) h = unchanged m
  obeys_keeps (list a nm i k) h = unchanged m
  obeys_keeps (get a nm i j k) h = unchanged m
  obeys_keeps (set_mark a nm i k v) h = unchanged m
  obeys_keeps (to_box a nm i o) h = unchanged m
  obeys_keeps (clear a nm) h = unchanged m
  obeys_keeps (rules a rs) h = unchanged m
  obeys_keeps (find a nm t) h = unchanged m
  obeys_keeps (push d) h = unchanged m

  -- a command that is read fits
  heard_keeps : (text : List ℕ) → Keeps m (obeys P (command_of text) m)
  unfolding obeys Said
  heard_keeps text =
      elim (said_or_not text) [
        | inl r ↦ rw r.1 (obeys_keeps r.0 r.2.1)
        | inr r ↦ rw r.0 (unchanged m)
      ]

  said_told_keeps : (ph : Phase) (text : List ℕ) → Keeps m (said_told P ph text m)
  unfolding said_told
  said_told_keeps Off text = unchanged m
  said_told_keeps ReadHeader text = unchanged m
  said_told_keeps (ReadSelectors q) text = unchanged m
  said_told_keeps (ReadDirectory t) text = unchanged m
  said_told_keeps Idle text = heard_keeps text
  said_told_keeps (ShowBoxes a i) text = unchanged m
  said_told_keeps (WriteTable t) text = unchanged m
  said_told_keeps (WriteSelectors q) text = unchanged m
  said_told_keeps WriteHeader text = unchanged m
  said_told_keeps FlushHeader text = unchanged m
  said_told_keeps Committed text = unchanged m
  said_told_keeps Shown text = unchanged m

-- Every event, at every memory.
pub stepped_keeps : (m : List ℕ) (ev : Event) → Keeps m (stepped m ev)
stepped_keeps m (on c n pages) = powered_up_keeps c n pages m
stepped_keeps m (said text) = or_refused m 1 (sensible m) (said_told (pages_count m) (phase_of m) text m) (λ h. said_told_keeps m (sense m h) (phase_of m) text)
stepped_keeps m (page p) = or_refused m 1 (sensible m && a_page p) (page_told (pages_count m) (phase_of m) p m) (λ h.
    let both = and_parts (sensible m) (a_page p) h in
    page_told_keeps m (sense m both.0) (phase_of m) p (and_parts (eqb (length p) 512) (all_bytes p) both.1).1)
stepped_keeps m next = or_refused m 1 (sensible m) (next_told (pages_count m) (phase_of m) m) (λ h. next_told_keeps m (sense m h) (phase_of m) (phase_of_small m))
stepped_keeps m (heard l) = unchanged m
stepped_keeps m lost = unchanged m

all_nothing : (n : ℕ) → every (λ k. eqb k 0) (zeros n) ≡ true
unfolding zeros
all_nothing zero = refl
all_nothing (suc n) = all_nothing n

pub steady : Steady own
unfolding Steady own
steady = (omega (arith, length_zeros memory_len), all_nothing memory_len, λ m ev. let k : Keeps m (stepped m ev) = stepped_keeps m ev in (k.long, k.small))
