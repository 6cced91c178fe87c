-- What a sound directory says of people and boxes, as the plain house that it stands for has them.
use Rattle.std.proofs.Common.{◌≡◌, ℕ, zero, suc, ◌+◌, ◌<◌, min, true, ◌&&◌, List, length, is_some, sym, ap, ◌∙◌, arith}
use Rattle.model.specs.Mail.{any, each, those, same}
use Rattle.model.specs.House.{Person, a_name, has_box, person_at}
use Rattle.mailboxes.specs.Directory.{person_place, box_place, name_at, named, owner_at, count_up, owns, find_person, find_box, count_boxes, box_of, boxes_of, person_of, house_of, Sound}
use Rattle.mailboxes.specs.Room.{people_room, box_room}
use Rattle.mailboxes.proofs.Places.{length_each, any_each, any_those, any_alike, length_count_up, first_any}
use Rattle.mailboxes.proofs.Names.{name_short, name_bytes, name_kept, named_kept, owner_kept}

module _ (people boxes : ℕ) (dir : List ℕ) (sound : Sound people boxes dir) where
  pub person_name : (a : ℕ) → a < people → (nm : List ℕ) → a_name nm ≡ true → named dir (person_place a) nm ≡ same (name_at dir (person_place a)) nm
  person_name a l nm h =
      let (n, ok, kept) = sound.person_named a l in
      rw
      (name_kept dir (person_place a) 0 n (name_short n ok) (name_bytes n ok) kept)
      (named_kept dir (person_place a) 0 n (name_short n ok) (name_bytes n ok) kept nm (name_short nm h) (name_bytes nm h))

  pub box_name : (i : ℕ) → i < boxes → (nm : List ℕ) → a_name nm ≡ true → named dir (box_place i) nm ≡ same (name_at dir (box_place i)) nm
  box_name i l nm h =
      let (a, n, there, ok, kept) = sound.box_named i l in
      rw
      (name_kept dir (box_place i) a n (name_short n ok) (name_bytes n ok) kept)
      (named_kept dir (box_place i) a n (name_short n ok) (name_bytes n ok) kept nm (name_short nm h) (name_bytes nm h))

  pub owner_there : (i : ℕ) → i < boxes → owner_at dir (box_place i) < people
  owner_there i l =
      let (a, n, there, ok, kept) = sound.box_named i l in rw (owner_kept dir (box_place i) a n (name_short n ok) (name_bytes n ok) kept) there

  -- a person is found by name just if the plain house has one
  pub find_person_any : (n : ℕ) (nm : List ℕ) → a_name nm ≡ true → is_some (find_person people dir nm) ≡ any (λ p. same p.name nm) (house_of n people boxes dir).people
  unfolding house_of person_of
  find_person_any n nm h =
      first_any (λ a. named dir (person_place a) nm) people 0
      ∙ any_alike (λ a. named dir (person_place a) nm) (λ a. same (name_at dir (person_place a)) nm) people 0 (λ a _ l. person_name a (omega arith) nm h)
      ∙ sym (any_each (λ p. same p.name nm) (person_of boxes dir) (count_up 0 people))

  -- and a box of a person
  pub find_box_has : (a : ℕ) (nm : List ℕ) → a_name nm ≡ true → is_some (find_box boxes dir a nm) ≡ has_box (boxes_of boxes dir a) nm
  unfolding box_of
  find_box_has a nm h =
      first_any (λ i. owns dir a i && named dir (box_place i) nm) boxes 0
      ∙ any_alike (λ i. owns dir a i && named dir (box_place i) nm) (λ i. owns dir a i && same (name_at dir (box_place i)) nm) boxes 0 (λ i _ l. ap (λ t. owns dir a i && t) (box_name i (omega arith) nm h))
      ∙ sym (any_those (λ i. same (name_at dir (box_place i)) nm) (owns dir a) (count_up 0 boxes))
      ∙ sym (any_each (λ b. same b.name nm) (box_of dir) (those (owns dir a) (count_up 0 boxes)))

pub count_boxes_length : (boxes : ℕ) (dir : List ℕ) (a : ℕ) → count_boxes boxes dir a ≡ length (boxes_of boxes dir a)
count_boxes_length boxes dir a = sym (length_each (box_of dir) (those (owns dir a) (count_up 0 boxes)))

person_at_each : (f : ℕ → Person) (k from a : ℕ) → a < k → person_at (each f (count_up from k)) a ≡ f (from + a)
unfolding person_at count_up
person_at_each f zero from a l = absurd (omega arith)
person_at_each f (suc k) from zero l = ap f (omega arith)
person_at_each f (suc k) from (suc a) l = person_at_each f k (suc from) a (omega arith) ∙ ap f (omega arith)

module _ (n people boxes : ℕ) (dir : List ℕ) where
  pub people_length : length (house_of n people boxes dir).people ≡ people
  unfolding house_of
  people_length = length_each (person_of boxes dir) (count_up 0 people) ∙ length_count_up people 0

  pub person_there : (a : ℕ) → a < people → person_at (house_of n people boxes dir).people a ≡ person_of boxes dir a
  unfolding house_of
  person_there a l = person_at_each (person_of boxes dir) people 0 a l ∙ ap (person_of boxes dir) (omega arith)

  pub boxes_there : (a : ℕ) → a < people → (person_at (house_of n people boxes dir).people a).boxes ≡ boxes_of boxes dir a
  unfolding person_of
  boxes_there a l = ap (λ p. p.boxes) (person_there a l)

-- the counts of a sound directory are within the words' room
pub people_counted : (people boxes : ℕ) (dir : List ℕ) → Sound people boxes dir → min people (people_room (length dir)) ≡ people
people_counted people boxes dir sound = omega (arith, sound.people_few, sound.boxes_fit)

pub boxes_counted : (people boxes : ℕ) (dir : List ℕ) → Sound people boxes dir → min boxes (box_room (length dir)) ≡ boxes
boxes_counted people boxes dir sound = omega (arith, sound.boxes_fit)
