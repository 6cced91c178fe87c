-- What the memory of a house at rest says of people, boxes and weight is what the plain house has.
use Rattle.std.proofs.Common.{◌≡◌, ℕ, ◌+◌, ◌<◌, true, List, [], ◌∷◌, length, get_or, is_some, sym, ap, ◌∙◌, arith}
use Rattle.model.specs.Mail.{any, same}
use Rattle.model.specs.House.{House, person_at, has_box, weight, a_name}
use Rattle.model.specs.Run.{World}
use Rattle.mailboxes.specs.Directory.{find_person, find_box, count_boxes, boxes_of}
use Rattle.mailboxes.proofs.People.{find_person_any, find_box_has, count_boxes_length, people_length, boxes_there}
use Rattle.house.specs.declared.phase.Phase.TheVariants.{Idle}
use Rattle.house.specs.Memory.{people_of, boxes_count, weight_of, directory_of}
use Rattle.house.proofs.Regions.{header_word}
use Rattle.house.proofs.Rest.{Up}

module _ (P n : ℕ) (h : House) (v : World) (U : Up P n h v) where
  word_is : (i : ℕ) → i < 32 → get_or v.memory (64 + i) 0 ≡ get_or U.header i 0
  word_is i l = header_word P Idle (U.house_number ∷ n ∷ P ∷ U.shown ∷ []) U.header U.counting U.coming U.dir v.memory U.memory_is i l

  pub boxes_is : boxes_count v.memory ≡ get_or U.header 3 0
  boxes_is = word_is 3 (omega arith)

  pub weight_is : weight_of v.memory ≡ weight h
  weight_is = word_is 6 (omega arith) ∙ U.stands.weight_is

  pub dir_is : directory_of P v.memory ≡ U.dir
  dir_is = U.memory_is.directory_in

  pub people_word : people_of v.memory ≡ get_or U.header 2 0
  people_word = word_is 2 (omega arith)

  pub people_there : length h.people ≡ get_or U.header 2 0
  people_there = ap (λ z. length z.people) U.stands.house_is ∙ people_length n (get_or U.header 2 0) (get_or U.header 3 0) U.dir

  pub people_is : people_of v.memory ≡ length h.people
  people_is = people_word ∙ sym people_there

  pub own_boxes : (a : ℕ) → a < length h.people → (person_at h.people a).boxes ≡ boxes_of (get_or U.header 3 0) U.dir a
  own_boxes a l =
      ap (λ z. (person_at z.people a).boxes) U.stands.house_is
      ∙ boxes_there n (get_or U.header 2 0) (get_or U.header 3 0) U.dir a (omega (arith, people_there))

  pub count_is : (a : ℕ) → a < length h.people → count_boxes (boxes_count v.memory) (directory_of P v.memory) a ≡ length (person_at h.people a).boxes
  count_is a l = rw (boxes_is, dir_is) (count_boxes_length (get_or U.header 3 0) U.dir a ∙ sym (ap length (own_boxes a l)))

  pub person_found : (nm : List ℕ) → a_name nm ≡ true → is_some (find_person (people_of v.memory) (directory_of P v.memory) nm) ≡ any (λ p. same p.name nm) h.people
  person_found nm ok =
      rw (people_word, dir_is)
      (find_person_any (get_or U.header 2 0) (get_or U.header 3 0) U.dir U.stands.sound n nm ok ∙ sym (ap (λ z. any (λ p. same p.name nm) z.people) U.stands.house_is))

  pub box_found : (a : ℕ) (nm : List ℕ) → a < length h.people → a_name nm ≡ true →
      is_some (find_box (boxes_count v.memory) (directory_of P v.memory) a nm) ≡ has_box (person_at h.people a).boxes nm
  box_found a nm l ok =
      rw (boxes_is, dir_is)
      (find_box_has (get_or U.header 2 0) (get_or U.header 3 0) U.dir U.stands.sound a nm ok ∙ sym (ap (λ bs. has_box bs nm) (own_boxes a l)))
