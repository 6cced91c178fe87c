-- What a new person and a new box change: the plain house gets just them, the directory stays sound, and no other words are written.
use Rattle.std.proofs.Common.{◌≡◌, ℕ, zero, suc, ◌+◌, ◌*◌, ◌/◌, ◌^◌, ◌<◌, ◌≤◌, true, eqb, ◌⊎◌, List, [], ◌∷◌, ◌++◌, length, sym, refl, ap, ◌∙◌, inl, inr, arith}
use Rattle.std.proofs.lemmas.Bool.{cases_Bool, cases_eq, cases_lt, eq-eqb, ne_eqb}
use Rattle.std.proofs.lemmas.List.{append-nil}
use Rattle.model.specs.Mail.{pick, each, those, in_box}
use Rattle.model.specs.House.{Person, a_name, person_at, set_person, with_people, with_boxes, change_boxes, new_one, at_first}
use Rattle.model.specs.Run.{all_small}
use Rattle.model.specs.Promise.{master, first_house}
use Rattle.pages.specs.Words.{part, patched}
use Rattle.mailboxes.specs.Directory.{name_record, person_record, box_record, person_place, box_place, owner_at, count_up, owns, box_of, boxes_of, person_of, house_of, Sound, with_person, with_box, first_directory}
use Rattle.pages.proofs.Words.{length_patched, part_patched, part_patched_before, part_patched_after, all_small_patched}
use Rattle.mailboxes.proofs.Places.{each_append, those_append, each_alike, each_those_alike, those_none, count_up_push}
use Rattle.mailboxes.proofs.Names.{name_short, name_bytes, name_kept, owner_kept}
use Rattle.mailboxes.proofs.Records.{length_person_record, length_box_record, all_small_person_record, all_small_box_record, person_front, box_front, box_of_record, owner_of_record, front_alike, owner_alike, name_alike, box_alike}
use Rattle.mailboxes.proofs.People.{person_there}

-- a record of 12 words written over others: it stands there, and what lies apart is as it was
module _ (dir : List ℕ) (at : ℕ) (ws : List ℕ) (twelve : length ws ≡ 12) (fits : at + 12 ≤ length dir) where
  length_written : length (patched dir at ws) ≡ length dir
  length_written = length_patched dir at ws (omega arith)

  written : part (patched dir at ws) at 12 ≡ ws
  written = ap (part (patched dir at ws) at) (sym twelve) ∙ part_patched dir at ws (omega arith)

  unwritten : (b n : ℕ) → (b + n ≤ at) ⊎ (at + 12 ≤ b) → part (patched dir at ws) b n ≡ part dir b n
  unwritten b n (inl l) = part_patched_before dir at ws b n (omega arith) l
  unwritten b n (inr l) = part_patched_after dir at ws b n (omega arith) (omega arith)

-- one box more behind those that are as they were
module _ (boxes : ℕ) (dir dir' : List ℕ) (o : ℕ) (nm : List ℕ) (named : a_name nm ≡ true)
    (old : (i : ℕ) → i < boxes → part dir' (box_place i) 12 ≡ part dir (box_place i) 12)
    (new : part dir' (box_place boxes) 12 ≡ box_record o nm) where
  last_box : (a : ℕ) → each (box_of dir') (those (owns dir' a) (boxes ∷ [])) ≡ pick (eqb o a) (new_one nm ∷ []) []
  last_box a =
      rw (owner_of_record dir' boxes o nm named new) (elim (cases_Bool (eqb o a)) [ inl e ↦ rw (e, box_of_record dir' boxes o nm named new) | inr e ↦ rw e ])

  boxes_more : (a : ℕ) → boxes_of (suc boxes) dir' a ≡ boxes_of boxes dir a ++ pick (eqb o a) (new_one nm ∷ []) []
  boxes_more a =
      ap (λ l. each (box_of dir') (those (owns dir' a) l)) (count_up_push boxes)
      ∙ ap (each (box_of dir')) (those_append (owns dir' a) (count_up 0 boxes) (boxes ∷ []))
      ∙ each_append (box_of dir') (those (owns dir' a) (count_up 0 boxes)) (those (owns dir' a) (boxes ∷ []))
      ∙ ap (λ l. l ++ each (box_of dir') (those (owns dir' a) (boxes ∷ [])))
      (each_those_alike (box_of dir') (box_of dir) (owns dir' a) (owns dir a) boxes 0 (λ i _ l.
      let e = old i (omega arith) in (box_alike dir dir' i e, ap (λ b. eqb b a) (owner_alike dir dir' (box_place i) (box_place i) e))))
      ∙ ap (λ l. boxes_of boxes dir a ++ l) (last_box a)

  -- nobody else gets a box, and the owner gets just this one
  boxes_others : (a : ℕ) → (o ≡ a → ⊥) → boxes_of (suc boxes) dir' a ≡ boxes_of boxes dir a
  boxes_others a n = rw (boxes_more a, ne_eqb o a n) (append-nil (boxes_of boxes dir a))

  boxes_owner : boxes_of (suc boxes) dir' o ≡ boxes_of boxes dir o ++ new_one nm ∷ []
  boxes_owner = rw (boxes_more o, eq-eqb o o refl)

-- who has no box yet
no_boxes : (people boxes : ℕ) (dir : List ℕ) → ((i : ℕ) → i < boxes → owner_at dir (box_place i) < people) → boxes_of boxes dir people ≡ []
no_boxes people boxes dir owners =
    ap (each (box_of dir)) (those_none (owns dir people) boxes 0 (λ i _ l.
    ne_eqb (owner_at dir (box_place i)) people (λ e. omega (arith, owners i (omega arith)))))

abbrev PersonsNamed : ℕ → List ℕ → Type 0
PersonsNamed people dir = (a : ℕ) → a < people → (nm : List ℕ) × (a_name nm ≡ true) × (part dir (person_place a) 9 ≡ name_record 0 nm)

abbrev BoxesNamed : ℕ → ℕ → List ℕ → Type 0
BoxesNamed people boxes dir =
    (i : ℕ) → i < boxes → (a : ℕ) × (nm : List ℕ) × (a < people) × (a_name nm ≡ true) × (part dir (box_place i) 9 ≡ name_record a nm)

-- a new box: room is what it needs
module _ (boxes : ℕ) (dir : List ℕ) (a : ℕ) (nm : List ℕ) (room : 864 + 12 * (boxes + 1) ≤ length dir) where
  pub length_with_box : length (with_box boxes dir a nm) ≡ length dir
  unfolding with_box
  length_with_box = length_written dir (box_place boxes) (box_record a nm) (length_box_record a nm) (omega arith)

  pub with_box_new : part (with_box boxes dir a nm) (box_place boxes) 12 ≡ box_record a nm
  unfolding with_box
  with_box_new = written dir (box_place boxes) (box_record a nm) (length_box_record a nm) (omega arith)

  pub with_box_apart : (b n : ℕ) → (b + n ≤ box_place boxes) ⊎ (box_place boxes + 12 ≤ b) → part (with_box boxes dir a nm) b n ≡ part dir b n
  unfolding with_box
  with_box_apart = unwritten dir (box_place boxes) (box_record a nm) (length_box_record a nm) (omega arith)

  with_box_old : (i : ℕ) → i < boxes → part (with_box boxes dir a nm) (box_place i) 12 ≡ part dir (box_place i) 12
  with_box_old i l = with_box_apart (box_place i) 12 (inl (omega arith))

  with_box_person : (b : ℕ) → b < 64 → part (with_box boxes dir a nm) (person_place b) 12 ≡ part dir (person_place b) 12
  with_box_person b l = with_box_apart (person_place b) 12 (inl (omega arith))

-- a new person
module _ (people boxes : ℕ) (dir : List ℕ) (nm : List ℕ) (few : people < 64) (room : 864 + 12 * (boxes + 1) ≤ length dir) where
  length_middle : length (patched dir (person_place people) (person_record nm)) ≡ length dir
  length_middle = length_written dir (person_place people) (person_record nm) (length_person_record nm) (omega arith)

  pub length_with_person : length (with_person people boxes dir nm) ≡ length dir
  unfolding with_person
  length_with_person =
      length_written (patched dir (person_place people) (person_record nm)) (box_place boxes) (box_record people in_box) (length_box_record people in_box) (omega (arith, length_middle))
      ∙ length_middle

  pub with_person_box : part (with_person people boxes dir nm) (box_place boxes) 12 ≡ box_record people in_box
  unfolding with_person
  with_person_box =
      written (patched dir (person_place people) (person_record nm)) (box_place boxes) (box_record people in_box) (length_box_record people in_box) (omega (arith, length_middle))

  apart_box : (b n : ℕ) → (b + n ≤ box_place boxes) ⊎ (box_place boxes + 12 ≤ b) → part (with_person people boxes dir nm) b n ≡ part (patched dir (person_place people) (person_record nm)) b n
  unfolding with_person
  apart_box = unwritten (patched dir (person_place people) (person_record nm)) (box_place boxes) (box_record people in_box) (length_box_record people in_box) (omega (arith, length_middle))

  pub with_person_new : part (with_person people boxes dir nm) (person_place people) 12 ≡ person_record nm
  with_person_new =
      apart_box (person_place people) 12 (inl (omega arith)) ∙ written dir (person_place people) (person_record nm) (length_person_record nm) (omega arith)

  pub with_person_apart : (b n : ℕ) → (b + n ≤ box_place boxes) ⊎ (box_place boxes + 12 ≤ b) → (b + n ≤ person_place people) ⊎ (person_place people + 12 ≤ b) →
      part (with_person people boxes dir nm) b n ≡ part dir b n
  with_person_apart b n p q = apart_box b n p ∙ unwritten dir (person_place people) (person_record nm) (length_person_record nm) (omega arith) b n q

  with_person_old : (i : ℕ) → i < boxes → part (with_person people boxes dir nm) (box_place i) 12 ≡ part dir (box_place i) 12
  with_person_old i l = with_person_apart (box_place i) 12 (inl (omega arith)) (inr (omega arith))

  with_person_person : (b : ℕ) → b < people → part (with_person people boxes dir nm) (person_place b) 12 ≡ part dir (person_place b) 12
  with_person_person b l = with_person_apart (person_place b) 12 (inl (omega arith)) (inl (omega arith))

-- a person whose record is as it was, and whose boxes are
person_alike : (boxes boxes' : ℕ) (dir dir' : List ℕ) (a : ℕ) → part dir' (person_place a) 12 ≡ part dir (person_place a) 12 → boxes_of boxes' dir' a ≡ boxes_of boxes dir a →
    person_of boxes' dir' a ≡ person_of boxes dir a
unfolding person_of
person_alike boxes boxes' dir dir' a e b = rw (name_alike dir dir' (person_place a) (person_place a) e, b)

module _ (people boxes : ℕ) (dir : List ℕ) (nm : List ℕ) (few : people < 64) (room : 864 + 12 * (boxes + 1) ≤ length dir) (named : a_name nm ≡ true) where
  owners_there : BoxesNamed people boxes dir → (i : ℕ) → i < boxes → owner_at dir (box_place i) < people
  owners_there b i l =
      let (a, n, there, ok, kept) = b i l in rw (owner_kept dir (box_place i) a n (name_short n ok) (name_bytes n ok) kept) there

  person_before : BoxesNamed people boxes dir → (a : ℕ) → a < people → person_of (suc boxes) (with_person people boxes dir nm) a ≡ person_of boxes dir a
  person_before b a l =
      person_alike boxes (suc boxes) dir (with_person people boxes dir nm) a (with_person_person people boxes dir nm few room a l)
      (boxes_others boxes dir (with_person people boxes dir nm) people in_box refl (with_person_old people boxes dir nm few room) (with_person_box people boxes dir nm few room) a (λ e. omega arith))

  person_new : BoxesNamed people boxes dir → person_of (suc boxes) (with_person people boxes dir nm) people ≡ record { name = nm; boxes = at_first; rules = [] }
  unfolding person_of
  person_new b =
      let kept = person_front (with_person people boxes dir nm) (person_place people) nm (with_person_new people boxes dir nm few room) in
      rw (
        name_kept (with_person people boxes dir nm) (person_place people) 0 nm (name_short nm named) (name_bytes nm named) kept,
        boxes_owner boxes dir (with_person people boxes dir nm) people in_box refl (with_person_old people boxes dir nm few room) (with_person_box people boxes dir nm few room),
        no_boxes people boxes dir (owners_there b),
      )

  house_with_person : (n : ℕ) → BoxesNamed people boxes dir →
      house_of n (suc people) (suc boxes) (with_person people boxes dir nm)
      ≡ with_people (house_of n people boxes dir) ((house_of n people boxes dir).people ++ record { name = nm; boxes = at_first; rules = [] } ∷ [])
  unfolding house_of
  house_with_person n b =
      ap (with_people (house_of n people boxes dir))
      (ap (each (person_of (suc boxes) (with_person people boxes dir nm))) (count_up_push people)
      ∙ each_append (person_of (suc boxes) (with_person people boxes dir nm)) (count_up 0 people) (people ∷ [])
      ∙ ap (λ l. l ++ person_of (suc boxes) (with_person people boxes dir nm) people ∷ [])
      (each_alike (person_of (suc boxes) (with_person people boxes dir nm)) (person_of boxes dir) people 0 (λ a _ l. person_before b a (omega arith)))
      ∙ ap (λ p. each (person_of boxes dir) (count_up 0 people) ++ p ∷ []) (person_new b))

  sound_with_person : PersonsNamed people dir → BoxesNamed people boxes dir → Sound (suc people) (suc boxes) (with_person people boxes dir nm)
  sound_with_person p b = record {
    somebody_there = omega arith;
    people_few = omega arith;
    boxes_fit = omega (arith, length_with_person people boxes dir nm few room);
    person_named = λ a l. elim (cases_eq a people) [
      | inl e ↦ (nm, named, rw e (person_front (with_person people boxes dir nm) (person_place people) nm (with_person_new people boxes dir nm few room)))
      | inr e ↦
          let l' : a < people = omega arith in
          let (n, ok, kept) = p a l' in
          (n, ok, front_alike dir (with_person people boxes dir nm) (person_place a) (person_place a) (with_person_person people boxes dir nm few room a l') ∙ kept)
    ];
    box_named = λ i l. elim (cases_eq i boxes) [
      | inl e ↦ (people, in_box, omega arith, refl, rw e (box_front (with_person people boxes dir nm) (box_place boxes) people in_box (with_person_box people boxes dir nm few room)))
      | inr e ↦
          let l' : i < boxes = omega arith in
          let (a, n, there, ok, kept) = b i l' in
          (a, n, omega arith, ok, front_alike dir (with_person people boxes dir nm) (box_place i) (box_place i) (with_person_old people boxes dir nm few room i l') ∙ kept)
    ];
  }

-- a new person in a sound directory
module _ (people boxes : ℕ) (dir : List ℕ) (sound : Sound people boxes dir) (nm : List ℕ) (named : a_name nm ≡ true) (few : people < 64) (room : 864 + 12 * (boxes + 1) ≤ length dir) where
  pub with_person_house : (n : ℕ) →
      house_of n (suc people) (suc boxes) (with_person people boxes dir nm)
      ≡ with_people (house_of n people boxes dir) ((house_of n people boxes dir).people ++ record { name = nm; boxes = at_first; rules = [] } ∷ [])
  with_person_house n = house_with_person people boxes dir nm few room named n sound.box_named

  pub with_person_sound : Sound (suc people) (suc boxes) (with_person people boxes dir nm)
  with_person_sound = sound_with_person people boxes dir nm few room named sound.person_named sound.box_named

-- the first directory: the postmaster comes to nobody
module _ (dir : List ℕ) (room : 876 ≤ length dir) where
  pub first_directory_house : (n : ℕ) → house_of n 1 1 (first_directory dir) ≡ first_house n
  unfolding first_directory house_of count_up
  first_directory_house n = house_with_person 0 0 dir master (omega arith) room refl n (λ i l. absurd (omega arith))

  pub first_directory_sound : Sound 1 1 (first_directory dir)
  unfolding first_directory
  first_directory_sound = sound_with_person 0 0 dir master (omega arith) room refl (λ a l. absurd (omega arith)) (λ i l. absurd (omega arith))

  pub length_first_directory : length (first_directory dir) ≡ length dir
  unfolding first_directory
  length_first_directory = length_with_person 0 0 dir master (omega arith) room

-- one person put in the place of another
set_person_each : (f g : ℕ → Person) (k from a : ℕ) → a < k → ((j : ℕ) → from ≤ j → j < from + k → (j ≡ from + a → ⊥) → f j ≡ g j) →
    set_person (each f (count_up from k)) a (g (from + a)) ≡ each g (count_up from k)
unfolding set_person count_up
set_person_each f g zero from a l h = absurd (omega arith)
set_person_each f g (suc k) from zero l h =
    let e : from + 0 ≡ from = omega arith in
    rw e (ap (λ r. g from ∷ r) (each_alike f g k (suc from) (λ j a b. h j (omega arith) (omega arith) (λ q. omega arith))))
set_person_each f g (suc k) from (suc a) l h =
    let e : from + suc a ≡ suc from + a = omega arith in
    rw (h from (omega arith) (omega arith) (λ q. omega arith), e)
    (ap (λ r. g from ∷ r) (set_person_each f g k (suc from) a (omega arith) (λ j p q n. h j (omega arith) (omega arith) (λ z. n (omega arith)))))

-- a new box in a sound directory
module _ (people boxes : ℕ) (dir : List ℕ) (sound : Sound people boxes dir) (a : ℕ) (there : a < people) (nm : List ℕ) (named : a_name nm ≡ true) (room : 864 + 12 * (boxes + 1) ≤ length dir) where
  person_other : (b : ℕ) → b < people → (b ≡ a → ⊥) → person_of (suc boxes) (with_box boxes dir a nm) b ≡ person_of boxes dir b
  person_other b l n =
      person_alike boxes (suc boxes) dir (with_box boxes dir a nm) b (with_box_person boxes dir a nm room b (omega (arith, sound.people_few)))
      (boxes_others boxes dir (with_box boxes dir a nm) a nm named (with_box_old boxes dir a nm room) (with_box_new boxes dir a nm room) b (λ e. n (sym e)))

  person_owner : person_of (suc boxes) (with_box boxes dir a nm) a ≡ with_boxes (person_of boxes dir a) ((person_of boxes dir a).boxes ++ new_one nm ∷ [])
  unfolding person_of
  person_owner =
      rw (
        name_alike dir (with_box boxes dir a nm) (person_place a) (person_place a) (with_box_person boxes dir a nm room a (omega (arith, sound.people_few))),
        boxes_owner boxes dir (with_box boxes dir a nm) a nm named (with_box_old boxes dir a nm room) (with_box_new boxes dir a nm room),
      )

  changed : (n : ℕ) →
      house_of n people (suc boxes) (with_box boxes dir a nm)
      ≡ with_people (house_of n people boxes dir) (set_person (house_of n people boxes dir).people a (person_of (suc boxes) (with_box boxes dir a nm) a))
  unfolding house_of
  changed n =
      let e : 0 + a ≡ a = omega arith in
      ap (with_people (house_of n people boxes dir))
      (sym (set_person_each (person_of boxes dir) (person_of (suc boxes) (with_box boxes dir a nm)) people 0 a there (λ b _ l ne. sym (person_other b (omega arith) (λ q. ne (omega arith)))))
      ∙ ap (λ i. set_person (each (person_of boxes dir) (count_up 0 people)) a (person_of (suc boxes) (with_box boxes dir a nm) i)) e)

  pub with_box_house : (n : ℕ) →
      house_of n people (suc boxes) (with_box boxes dir a nm)
      ≡ change_boxes (house_of n people boxes dir) a ((person_at (house_of n people boxes dir).people a).boxes ++ new_one nm ∷ [])
  with_box_house n =
      changed n
      ∙ ap (λ p. with_people (house_of n people boxes dir) (set_person (house_of n people boxes dir).people a p))
      (person_owner ∙ sym (ap (λ p. with_boxes p (p.boxes ++ new_one nm ∷ [])) (person_there n people boxes dir a there)))

  pub with_box_sound : Sound people (suc boxes) (with_box boxes dir a nm)
  with_box_sound = record {
    somebody_there = sound.somebody_there;
    people_few = sound.people_few;
    boxes_fit = omega (arith, length_with_box boxes dir a nm room);
    person_named = λ b l.
        let (n, ok, kept) = sound.person_named b l in
        (n, ok, front_alike dir (with_box boxes dir a nm) (person_place b) (person_place b) (with_box_person boxes dir a nm room b (omega (arith, sound.people_few))) ∙ kept);
    box_named = λ i l. elim (cases_eq i boxes) [
      | inl e ↦ (a, nm, there, named, rw e (box_front (with_box boxes dir a nm) (box_place boxes) a nm (with_box_new boxes dir a nm room)))
      | inr e ↦
          let l' : i < boxes = omega arith in
          let (b, n, here, ok, kept) = sound.box_named i l' in
          (b, n, here, ok, front_alike dir (with_box boxes dir a nm) (box_place i) (box_place i) (with_box_old boxes dir a nm room i l') ∙ kept)
    ];
  }

-- numbers stay below 2^64
pub all_small_with_box : (boxes : ℕ) (dir : List ℕ) (a : ℕ) (nm : List ℕ) → all_small dir ≡ true → a < 2 ^ 32 → a_name nm ≡ true → all_small (with_box boxes dir a nm) ≡ true
unfolding with_box
all_small_with_box boxes dir a nm s l h = all_small_patched dir (box_place boxes) (box_record a nm) s (all_small_box_record a nm l h)

pub all_small_with_person : (people boxes : ℕ) (dir : List ℕ) (nm : List ℕ) → all_small dir ≡ true → people < 2 ^ 32 → a_name nm ≡ true →
    all_small (with_person people boxes dir nm) ≡ true
unfolding with_person
all_small_with_person people boxes dir nm s l h =
    all_small_patched (patched dir (person_place people) (person_record nm)) (box_place boxes) (box_record people in_box)
    (all_small_patched dir (person_place people) (person_record nm) s (all_small_person_record nm h))
    (all_small_box_record people in_box l refl)

pub all_small_first_directory : (dir : List ℕ) → all_small dir ≡ true → all_small (first_directory dir) ≡ true
unfolding first_directory
all_small_first_directory dir s = all_small_with_person 0 0 dir master s (omega arith) refl

-- a record lies on the page of its first word and on that of its last, and on no other
page_apart : (t at : ℕ) → (t ≡ at / 64 → ⊥) → (t ≡ (at + 11) / 64 → ⊥) → (64 * t + 64 ≤ at) ⊎ (at + 12 ≤ 64 * t)
page_apart t at p q =
    elim (cases_lt t (at / 64)) [
      | inl l ↦ inl (omega arith)
      | inr l ↦ inr (let m : at / 64 < t = omega arith in omega arith)
    ]

pub with_box_page : (boxes : ℕ) (dir : List ℕ) (a : ℕ) (nm : List ℕ) → 864 + 12 * (boxes + 1) ≤ length dir →
    (t : ℕ) → (t ≡ box_place boxes / 64 → ⊥) → (t ≡ (box_place boxes + 11) / 64 → ⊥) → part (with_box boxes dir a nm) (64 * t) 64 ≡ part dir (64 * t) 64
with_box_page boxes dir a nm room t p q = with_box_apart boxes dir a nm room (64 * t) 64 (page_apart t (box_place boxes) p q)

pub with_person_page : (people boxes : ℕ) (dir : List ℕ) (nm : List ℕ) → people < 64 → 864 + 12 * (boxes + 1) ≤ length dir →
    (t : ℕ) → (t ≡ box_place boxes / 64 → ⊥) → (t ≡ (box_place boxes + 11) / 64 → ⊥) → (t ≡ person_place people / 64 → ⊥) → (t ≡ (person_place people + 11) / 64 → ⊥) →
    part (with_person people boxes dir nm) (64 * t) 64 ≡ part dir (64 * t) 64
with_person_page people boxes dir nm few room t p q r s =
    with_person_apart people boxes dir nm few room (64 * t) 64 (page_apart t (box_place boxes) p q) (page_apart t (person_place people) r s)

-- the first directory changes its first page and the one where boxes begin
pub first_directory_page : (dir : List ℕ) → 876 ≤ length dir → (t : ℕ) → (t ≡ 0 → ⊥) → (t ≡ 13 → ⊥) → part (first_directory dir) (64 * t) 64 ≡ part dir (64 * t) 64
unfolding first_directory
first_directory_page dir room t p q = with_person_page 0 0 dir master (omega arith) room t q q p p
