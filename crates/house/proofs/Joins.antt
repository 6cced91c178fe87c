-- Join, new box and boxes: which way the definition goes, from the tests of the code, and what a new person or box leaves as it was.
use Rattle.std.proofs.Common.{◌≡◌, ℕ, ◌+◌, ◌-◌, ◌*◌, ◌/◌, ◌<◌, ◌≤◌, true, false, ltb, leb, List, [], ◌∷◌, length, is_some, Some, None, Option, sym, ap, ◌∙◌, arith}
use Rattle.std.proofs.lemmas.Bool.{lt-ltb, le-ltb, le-leb, lt-leb, and_from}
use Rattle.model.specs.House.{box_row}
use Rattle.model.specs.Run.{done, shows}
use Rattle.pages.specs.Words.{part, patched}
use Rattle.pages.specs.Bits.{touched}
use Rattle.pages.specs.Geometry.{selector_pages, directory_pages}
use Rattle.pages.proofs.Words.{length_part, length_patched, get_or_patched_before, get_or_patched_after}
use Rattle.pages.proofs.Bits.{length_touched}
use Rattle.mailboxes.specs.Directory.{person_place, box_place, owns, find_person, find_box, count_boxes, next_box, box_of, with_person, with_box}
use Rattle.mailboxes.specs.Row.{row_fits}
use Rattle.mailboxes.proofs.Places.{first_some}
use Rattle.mailboxes.proofs.Records.{box_row_short}
use Rattle.mailboxes.proofs.Changes.{length_with_person, length_with_box}
use Rattle.house.specs.declared.phase.Phase.TheVariants.{Idle, ShowBoxes}
use Rattle.house.specs.Memory.{area_of, people_of, boxes_count, directory_of}
use Rattle.house.specs.Machine.{refuse, go, touch_record, commit, no_room, person_added, joins, box_added, makes_box, shows_boxes}
use Rattle.house.specs.Does.{Lends}
use Rattle.house.proofs.Touches.{selector_words_most}

-- the directory that is lent
module _ (P : ℕ) (m words : List ℕ) (people boxes : ℕ) (lent : Lends P m words people boxes) where
  pub person_found : (nm : List ℕ) (r : Option ℕ) → r ≡ find_person people words nm → r ≡ find_person (people_of m) (directory_of P m) nm
  person_found nm r e = e ∙ ap (λ k. find_person k words nm) lent.people_are ∙ ap (λ ws. find_person (people_of m) ws nm) lent.words_are

  pub box_found : (a : ℕ) (nm : List ℕ) (r : Option ℕ) → r ≡ find_box boxes words a nm → r ≡ find_box (boxes_count m) (directory_of P m) a nm
  box_found a nm r e = e ∙ ap (λ k. find_box k words a nm) lent.boxes_are ∙ ap (λ ws. find_box (boxes_count m) ws a nm) lent.words_are

  pub boxes_counted : (a r : ℕ) → r ≡ count_boxes boxes words a → r ≡ count_boxes (boxes_count m) (directory_of P m) a
  boxes_counted a r e = e ∙ ap (λ k. count_boxes k words a) lent.boxes_are ∙ ap (λ ws. count_boxes (boxes_count m) ws a) lent.words_are

  pub box_next : (a from : ℕ) (r : Option ℕ) → r ≡ next_box boxes words a from → r ≡ next_box (boxes_count m) (directory_of P m) a from
  box_next a from r e = e ∙ ap (λ k. next_box k words a from) lent.boxes_are ∙ ap (λ ws. next_box (boxes_count m) ws a from) lent.words_are

-- a box that was found has a row that fits
pub next_fits : (boxes : ℕ) (words : List ℕ) (a from i : ℕ) (out : List ℕ) → 131072 ≤ length out → Some i ≡ next_box boxes words a from → row_fits boxes words i out ≡ true
next_fits boxes words a from i out l e =
    let f = first_some (owns words a) (boxes - from) from i (sym e) in
    and_from (ltb i boxes) (leb (length (box_row (box_of words i))) (length out))
    (lt-ltb i boxes (omega (arith, f.not_before, f.not_past)))
    (le-leb (length (box_row (box_of words i))) (length out) (omega (arith, box_row_short words i)))

-- join
module _ (P : ℕ) (nm m : List ℕ) where
  pub join_taken : is_some (find_person (people_of m) (directory_of P m) nm) ≡ true → joins P nm m ≡ refuse 4 m
  unfolding joins
  join_taken e = rw e

  pub join_many : is_some (find_person (people_of m) (directory_of P m) nm) ≡ false → 64 ≤ people_of m → joins P nm m ≡ refuse 7 m
  unfolding joins
  join_many e h = rw (e, le-leb 64 (people_of m) h)

  pub join_full : is_some (find_person (people_of m) (directory_of P m) nm) ≡ false → people_of m < 64 → no_room P 776 m ≡ true → joins P nm m ≡ refuse 8 m
  unfolding joins
  join_full e h r = rw (e, lt-leb 64 (people_of m) h, r)

  pub join_done : is_some (find_person (people_of m) (directory_of P m) nm) ≡ false → people_of m < 64 → no_room P 776 m ≡ false → joins P nm m ≡ commit P 0 (person_added P nm m)
  unfolding joins
  join_done e h r = rw (e, lt-leb 64 (people_of m) h, r)

-- new box
module _ (P a : ℕ) (nm m : List ℕ) where
  pub box_nobody : people_of m ≤ a → makes_box P a nm m ≡ refuse 3 m
  unfolding makes_box
  box_nobody h = rw (le-ltb a (people_of m) h)

  pub box_taken : a < people_of m → is_some (find_box (boxes_count m) (directory_of P m) a nm) ≡ true → makes_box P a nm m ≡ refuse 4 m
  unfolding makes_box
  box_taken h e = rw (lt-ltb a (people_of m) h, e)

  pub box_many : a < people_of m → is_some (find_box (boxes_count m) (directory_of P m) a nm) ≡ false → 256 ≤ count_boxes (boxes_count m) (directory_of P m) a → makes_box P a nm m ≡ refuse 7 m
  unfolding makes_box
  box_many h e k = rw (lt-ltb a (people_of m) h, e, le-leb 256 (count_boxes (boxes_count m) (directory_of P m) a) k)

  pub box_full : a < people_of m → is_some (find_box (boxes_count m) (directory_of P m) a nm) ≡ false → count_boxes (boxes_count m) (directory_of P m) a < 256 → no_room P 256 m ≡ true →
      makes_box P a nm m ≡ refuse 8 m
  unfolding makes_box
  box_full h e k r = rw (lt-ltb a (people_of m) h, e, lt-leb 256 (count_boxes (boxes_count m) (directory_of P m) a) k, r)

  pub box_done : a < people_of m → is_some (find_box (boxes_count m) (directory_of P m) a nm) ≡ false → count_boxes (boxes_count m) (directory_of P m) a < 256 → no_room P 256 m ≡ false →
      makes_box P a nm m ≡ commit P 0 (box_added P a nm m)
  unfolding makes_box
  box_done h e k r = rw (lt-ltb a (people_of m) h, e, lt-leb 256 (count_boxes (boxes_count m) (directory_of P m) a) k, r)

-- boxes
module _ (P a from : ℕ) (m : List ℕ) where
  pub shows_none : None ≡ next_box (boxes_count m) (directory_of P m) a from → shows_boxes P a from m ≡ go Idle done m
  unfolding shows_boxes
  shows_none e = rw (sym e)

  pub shows_some : (i : ℕ) → Some i ≡ next_box (boxes_count m) (directory_of P m) a from →
      shows_boxes P a from m ≡ go (ShowBoxes a (i + 1)) (shows (box_row (box_of (directory_of P m) i))) m
  unfolding shows_boxes
  shows_some i e = rw (sym e)

-- the area stays as it was
touch_area : (P at : ℕ) (m : List ℕ) → length m ≡ 262144 → area_of (touch_record P at m) ≡ area_of m
unfolding touch_record
touch_area P at m long = get_or_patched_before m 1184 _ 65 0 (omega arith) (omega arith)

touched_length : (m : List ℕ) (n t u : ℕ) → n ≤ 1088 → length m ≡ 262144 → length (patched m 1184 (touched (part m 96 n) (touched (part m 96 n) (part m 1184 n) t) u)) ≡ 262144
touched_length m n t u h long =
    let size : length (touched (part m 96 n) (touched (part m 96 n) (part m 1184 n) t) u) ≡ n =
    length_touched (part m 96 n) (touched (part m 96 n) (part m 1184 n) t) u ∙ length_touched (part m 96 n) (part m 1184 n) t ∙ length_part m 1184 n (omega arith) in
    length_patched m 1184 (touched (part m 96 n) (touched (part m 96 n) (part m 1184 n) t) u) (omega arith) ∙ long

touch_length : (P at : ℕ) (m : List ℕ) → P ≤ 1048576 → length m ≡ 262144 → length (touch_record P at m) ≡ 262144
unfolding touch_record
touch_length P at m h long = touched_length m (64 * selector_pages P) (at / 64) ((at + 11) / 64) (selector_words_most P h) long

registers_area : (l cs : List ℕ) (at w x : ℕ) → length l ≡ 262144 → 66 ≤ at → at + length cs ≤ 70 →
    area_of (patched (patched (patched l at cs) 70 (w ∷ [])) 6 (x ∷ [])) ≡ area_of l
registers_area l cs at w x long h k =
    let l₁ : length (patched l at cs) ≡ 262144 = length_patched l at cs (omega arith) ∙ long in
    let l₂ : length (patched (patched l at cs) 70 (w ∷ [])) ≡ 262144 = length_patched (patched l at cs) 70 (w ∷ []) (omega arith) ∙ l₁ in
    get_or_patched_after (patched (patched l at cs) 70 (w ∷ [])) 6 (x ∷ []) 65 0 (omega arith) (omega arith)
    ∙ get_or_patched_before (patched l at cs) 70 (w ∷ []) 65 0 (omega arith) (omega arith)
    ∙ get_or_patched_before l at cs 65 0 (omega arith) (omega arith)

directory_length : (m ws : List ℕ) (n : ℕ) → length m ≡ 262144 → n ≤ 197504 → length ws ≡ n → length (patched m 2272 ws) ≡ 262144
directory_length m ws n long most e = length_patched m 2272 ws (omega arith) ∙ long

module _ (P : ℕ) (nm m : List ℕ) (d : ℕ) (size : P ≤ 1048576) (long : length m ≡ 262144) (is : d ≡ 64 * directory_pages P) (most : d ≤ 197504) (room : 864 + 12 * (boxes_count m + 1) ≤ d) where
  words_long : length (directory_of P m) ≡ d
  words_long = ap (λ n. length (part m 2272 n)) (sym is) ∙ length_part m 2272 d (omega arith)

  pub person_area : people_of m < 64 → area_of (person_added P nm m) ≡ area_of m
  unfolding person_added
  person_area few =
      let new = with_person (people_of m) (boxes_count m) (directory_of P m) nm in
      let l₁ : length (patched m 2272 new) ≡ 262144 =
      directory_length m new d long most (length_with_person (people_of m) (boxes_count m) (directory_of P m) nm few (omega (arith, words_long)) ∙ words_long) in
      let l₂ = touch_length P (person_place (people_of m)) (patched m 2272 new) size l₁ in
      let l₃ = touch_length P (box_place (boxes_count m)) (touch_record P (person_place (people_of m)) (patched m 2272 new)) size l₂ in
      registers_area (touch_record P (box_place (boxes_count m)) (touch_record P (person_place (people_of m)) (patched m 2272 new))) ((people_of m + 1) ∷ (boxes_count m + 1) ∷ []) 66 _ _ l₃ (omega arith) (omega arith)
      ∙ touch_area P (box_place (boxes_count m)) (touch_record P (person_place (people_of m)) (patched m 2272 new)) l₂
      ∙ touch_area P (person_place (people_of m)) (patched m 2272 new) l₁
      ∙ get_or_patched_before m 2272 new 65 0 (omega arith) (omega arith)

  pub box_area : (a : ℕ) → area_of (box_added P a nm m) ≡ area_of m
  unfolding box_added
  box_area a =
      let new = with_box (boxes_count m) (directory_of P m) a nm in
      let l₁ : length (patched m 2272 new) ≡ 262144 =
      directory_length m new d long most (length_with_box (boxes_count m) (directory_of P m) a nm (omega (arith, words_long)) ∙ words_long) in
      let l₂ = touch_length P (box_place (boxes_count m)) (patched m 2272 new) size l₁ in
      registers_area (touch_record P (box_place (boxes_count m)) (patched m 2272 new)) ((boxes_count m + 1) ∷ []) 67 _ _ l₂ (omega arith) (omega arith)
      ∙ touch_area P (box_place (boxes_count m)) (patched m 2272 new) l₁
      ∙ get_or_patched_before m 2272 new 65 0 (omega arith) (omega arith)
