-- Records of 12 words: how long they are, what is read from them, and that equal words are equal records.
use Rattle.std.proofs.Common.{◌≡◌, ℕ, suc, ◌+◌, ◌-◌, ◌*◌, ◌/◌, ◌%◌, ◌^◌, ◌<◌, ◌≤◌, true, ltb, List, [], ◌∷◌, ◌++◌, length, get_or, take, drop, sym, refl, ap, ◌∙◌, add-zero, arith, length-append, length-take}
use Rattle.std.proofs.lemmas.List.{take_at, take-take, get_or_at}
use Rattle.model.specs.Mail.{with_length, eight}
use Rattle.model.specs.House.{box_row, new_one, a_name}
use Rattle.model.specs.Device.{zeros}
use Rattle.model.specs.Run.{all_small}
use Rattle.pages.specs.Words.{bytes_of, part}
use Rattle.mailboxes.specs.Directory.{name_words, name_record, person_record, box_record, box_place, owner_at, name_at, named, box_of}
use Rattle.mailboxes.specs.Row.{row_at}
use Rattle.pages.proofs.Words.{length_eight, length_bytes_of, length_words_in, get_d_part, part_of_part, all_small_cons, all_small_append, all_small_words_in}
use Rattle.model.proofs.Places.{every_append}
use Rattle.mailboxes.proofs.Names.{all_bytes_zeros, name_short, name_bytes, name_kept, owner_kept}

pub length_name_words : (nm : List ℕ) → length (name_words nm) ≡ 8
unfolding name_words
length_name_words nm = length_words_in 8 (nm ++ zeros (64 - length nm))

pub length_name_record : (o : ℕ) (nm : List ℕ) → length (name_record o nm) ≡ 9
length_name_record o nm = ap suc (length_name_words nm)

pub length_person_record : (nm : List ℕ) → length (person_record nm) ≡ 12
unfolding person_record
length_person_record nm = omega (arith, length-append (name_record 0 nm) (0 ∷ 0 ∷ 0 ∷ []), length_name_record 0 nm)

pub length_box_record : (o : ℕ) (nm : List ℕ) → length (box_record o nm) ≡ 12
unfolding box_record
length_box_record o nm = omega (arith, length-append (name_record o nm) (1 ∷ 0 ∷ 0 ∷ []), length_name_record o nm)

-- the name at the front of a record
front_of_record : (dir : List ℕ) (at o : ℕ) (nm rest : List ℕ) → part dir at 12 ≡ name_record o nm ++ rest → part dir at 9 ≡ name_record o nm
front_of_record dir at o nm rest e = sym (take-take 9 12 (drop at dir) (omega arith)) ∙ ap (take 9) e ∙ take_at (name_record o nm) rest 9 (length_name_record o nm)

pub person_front : (dir : List ℕ) (at : ℕ) (nm : List ℕ) → part dir at 12 ≡ person_record nm → part dir at 9 ≡ name_record 0 nm
unfolding person_record
person_front dir at nm e = front_of_record dir at 0 nm (0 ∷ 0 ∷ 0 ∷ []) e

pub box_front : (dir : List ℕ) (at o : ℕ) (nm : List ℕ) → part dir at 12 ≡ box_record o nm → part dir at 9 ≡ name_record o nm
unfolding box_record
box_front dir at o nm e = front_of_record dir at o nm (1 ∷ 0 ∷ 0 ∷ []) e

box_next : (dir : List ℕ) (at o : ℕ) (nm : List ℕ) → part dir at 12 ≡ box_record o nm → get_or dir (at + 9) 0 ≡ 1
unfolding box_record
box_next dir at o nm e =
    sym (get_d_part dir at 12 9 0 (omega arith)) ∙ ap (λ r. get_or r 9 0) e ∙ get_or_at (name_record o nm) 1 (0 ∷ 0 ∷ []) 0 9 (length_name_record o nm)

-- a new box
pub box_of_record : (dir : List ℕ) (i o : ℕ) (nm : List ℕ) → a_name nm ≡ true → part dir (box_place i) 12 ≡ box_record o nm → box_of dir i ≡ new_one nm
unfolding box_of
box_of_record dir i o nm h e =
    let f = box_front dir (box_place i) o nm e in
    rw (name_kept dir (box_place i) o nm (name_short nm h) (name_bytes nm h) f, box_next dir (box_place i) o nm e)

pub owner_of_record : (dir : List ℕ) (i o : ℕ) (nm : List ℕ) → a_name nm ≡ true → part dir (box_place i) 12 ≡ box_record o nm → owner_at dir (box_place i) ≡ o
owner_of_record dir i o nm h e = owner_kept dir (box_place i) o nm (name_short nm h) (name_bytes nm h) (box_front dir (box_place i) o nm e)

-- two directories that have the same record, each at a place of its own
module _ (dir dir' : List ℕ) (at at' : ℕ) (alike : part dir' at' 12 ≡ part dir at 12) where
  word_alike : (i : ℕ) → i < 12 → get_or dir' (at' + i) 0 ≡ get_or dir (at + i) 0
  word_alike i l = sym (get_d_part dir' at' 12 i 0 l) ∙ ap (λ r. get_or r i 0) alike ∙ get_d_part dir at 12 i 0 l

  part_alike : (b n : ℕ) → b + n ≤ 12 → part dir' (at' + b) n ≡ part dir (at + b) n
  part_alike b n l = sym (part_of_part dir' at' 12 b n l) ∙ ap (λ r. part r b n) alike ∙ part_of_part dir at 12 b n l

  first_alike : get_or dir' at' 0 ≡ get_or dir at 0
  first_alike = rw (add-zero at, add-zero at') at (word_alike 0 (omega arith))

  pub front_alike : part dir' at' 9 ≡ part dir at 9
  front_alike = rw (add-zero at, add-zero at') at (part_alike 0 9 (omega arith))

  pub owner_alike : owner_at dir' at' ≡ owner_at dir at
  unfolding owner_at
  owner_alike = ap (λ w. w / 256) first_alike

  pub name_alike : name_at dir' at' ≡ name_at dir at
  unfolding name_at
  name_alike = rw (first_alike, part_alike 1 8 (omega arith))

  pub named_alike : (nm : List ℕ) → named dir' at' nm ≡ named dir at nm
  unfolding named
  named_alike nm = rw (first_alike, part_alike 1 8 (omega arith))

  pub next_alike : get_or dir' (at' + 9) 0 ≡ get_or dir (at + 9) 0
  next_alike = word_alike 9 (omega arith)

  pub row_alike : row_at dir' at' ≡ row_at dir at
  row_alike = rw (name_alike, next_alike)

pub box_alike : (dir dir' : List ℕ) (i : ℕ) → part dir' (box_place i) 12 ≡ part dir (box_place i) 12 → box_of dir' i ≡ box_of dir i
unfolding box_of
box_alike dir dir' i e = rw (name_alike dir dir' (box_place i) (box_place i) e, next_alike dir dir' (box_place i) (box_place i) e)

-- a record that was taken out of a directory
module _ (dir : List ℕ) (at : ℕ) (rec : List ℕ) (taken : rec ≡ part dir at 12) where
  whole : part rec 0 12 ≡ part dir at 12
  whole = ap (take 12) taken ∙ take-take 12 12 (drop at dir) (omega arith)

  pub owner_taken : owner_at rec 0 ≡ owner_at dir at
  owner_taken = owner_alike dir rec at 0 whole

  pub named_taken : (nm : List ℕ) → named rec 0 nm ≡ named dir at nm
  named_taken = named_alike dir rec at 0 whole

  pub row_taken : row_at rec 0 ≡ row_at dir at
  row_taken = row_alike dir rec at 0 whole

-- the row of a box
pub box_row_of : (dir : List ℕ) (i : ℕ) → box_row (box_of dir i) ≡ row_at dir (box_place i)
unfolding box_of
box_row_of dir i = refl

pub length_row_at : (dir : List ℕ) (at : ℕ) → length (row_at dir at) ≡ 8 + length (name_at dir at) + 16
length_row_at dir at =
    let nm = name_at dir at in
    let next = get_or dir (at + 9) 0 in
    omega (
      arith,
      length-append (with_length nm ++ eight next) (eight 0),
      length-append (with_length nm) (eight next),
      length-append (eight (length nm)) nm,
      length_eight (length nm),
      length_eight next,
      length_eight 0,
    )

pub length_box_row : (dir : List ℕ) (i : ℕ) → length (box_row (box_of dir i)) ≡ 8 + length (name_at dir (box_place i)) + 16
length_box_row dir i = ap length (box_row_of dir i) ∙ length_row_at dir (box_place i)

pub length_name_at : (dir : List ℕ) (at : ℕ) → length (name_at dir at) ≤ 64
unfolding name_at
length_name_at dir at =
    omega (
      arith,
      length-take (get_or dir at 0 % 256) (bytes_of (part dir (at + 1) 8)),
      length_bytes_of (part dir (at + 1) 8),
      length-take 8 (drop (at + 1) dir),
    )

pub box_row_short : (dir : List ℕ) (i : ℕ) → length (box_row (box_of dir i)) ≤ 88
box_row_short dir i = omega (arith, length_box_row dir i, length_name_at dir (box_place i))

-- words of records fit 64 bits
all_small_name_record : (o : ℕ) (nm : List ℕ) → o < 2 ^ 32 → a_name nm ≡ true → all_small (name_record o nm) ≡ true
unfolding name_words
all_small_name_record o nm l h =
    all_small_cons (256 * o + length nm) (name_words nm) (omega (arith, name_short nm h))
    (all_small_words_in 8 (nm ++ zeros (64 - length nm)) (every_append (λ b. ltb b 256) nm (zeros (64 - length nm)) (name_bytes nm h) (all_bytes_zeros (64 - length nm))))

pub all_small_person_record : (nm : List ℕ) → a_name nm ≡ true → all_small (person_record nm) ≡ true
unfolding person_record all_small
all_small_person_record nm h = all_small_append (name_record 0 nm) (0 ∷ 0 ∷ 0 ∷ []) (all_small_name_record 0 nm (omega arith) h) refl

pub all_small_box_record : (o : ℕ) (nm : List ℕ) → o < 2 ^ 32 → a_name nm ≡ true → all_small (box_record o nm) ≡ true
unfolding box_record all_small
all_small_box_record o nm l h = all_small_append (name_record o nm) (1 ∷ 0 ∷ 0 ∷ []) (all_small_name_record o nm l h) refl
