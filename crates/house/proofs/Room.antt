-- Room for one person or one box more: what the machine's test says of the weight, and that the weight decides alone.
use Rattle.std.proofs.Common.{◌≡◌, ℕ, zero, suc, ◌+◌, ◌*◌, ◌<◌, ◌≤◌, Bool, true, false, leb, List, [], ◌∷◌, ◌++◌, length, get_or, sym, refl, ap, ◌∙◌, subst, inl, inr, arith, length-append, le-leb, leb-false, leb-true}
use mathlib.Core.Bool.{false≢true}
use native.Mathlib.Decide.{ℕ_discrete}
use Rattle.std.proofs.lemmas.Bool.{cases_Bool}
use Rattle.model.specs.Mail.{every, each, those, added_up, in_bytes}
use Rattle.model.specs.House.{House, Person, person_at, set_person, with_people, with_boxes, change_boxes, new_one, at_first, letters_weight, person_weight, weight}
use Rattle.model.specs.Run.{World}
use Rattle.pages.specs.Geometry.{directory_pages}
use Rattle.pages.proofs.Geometry.{boxes_fit}
use Rattle.mailboxes.specs.Directory.{count_up, owns, box_of, person_of, house_of, Sound}
use Rattle.model.proofs.Places.{every_append}
use Rattle.mailboxes.proofs.Weight.{house_weight, ways_weigh}
use Rattle.mailboxes.proofs.People.{person_there}
use Rattle.house.specs.declared.phase.Phase.TheVariants.{Idle}
use Rattle.house.specs.Memory.{boxes_count, weight_of}
use Rattle.house.specs.Machine.{no_room}
use Rattle.house.proofs.Places.{and_left, and_right}
use Rattle.house.proofs.Pushing.{added_append}
use Rattle.house.proofs.Regions.{length_dir}
use Rattle.house.proofs.Registers.{room_says}
use Rattle.house.proofs.Rest.{FewBoxes, Up}
use Rattle.house.proofs.Counts.{boxes_is, weight_is, people_there}

-- Nobody has more boxes than they may, so there are at most 256 for each of the people.
empty_boxes : (dir is : List ℕ) → added_up (λ b. 256 + letters_weight b.letters) (each (box_of dir) is) ≡ 256 * length (each (box_of dir) is)
unfolding box_of
empty_boxes dir [] = omega arith
empty_boxes dir (i ∷ is) = omega (arith, empty_boxes dir is)

person_weighs : (many : ℕ) (dir : List ℕ) (a : ℕ) → person_weight (person_of many dir a) ≡ 520 + 256 * length (person_of many dir a).boxes
unfolding person_of in_bytes
person_weighs many dir a = omega (arith, empty_boxes dir (those (owns dir a) (count_up 0 many)))

abbrev few_of : Person → Bool
few_of p = leb (length p.boxes) 256

people_light : (many : ℕ) (dir : List ℕ) (k from : ℕ) → every few_of (each (person_of many dir) (count_up from k)) ≡ true → added_up person_weight (each (person_of many dir) (count_up from k)) ≤ 66056 * k
unfolding count_up
people_light many dir zero from h = omega arith
people_light many dir (suc k) from h =
    let one = leb-true (length (person_of many dir from).boxes) 256 (and_left (few_of (person_of many dir from)) _ h) in
    omega (arith, person_weighs many dir from, people_light many dir k (suc from) (and_right (few_of (person_of many dir from)) _ h))

-- and one fewer where somebody has fewer
people_lighter : (many : ℕ) (dir : List ℕ) (k from a : ℕ) → every few_of (each (person_of many dir) (count_up from k)) ≡ true → from ≤ a → a < from + k → length (person_of many dir a).boxes < 256
    → added_up person_weight (each (person_of many dir) (count_up from k)) + 256 ≤ 66056 * k
unfolding count_up
people_lighter many dir zero from a h p q l = absurd (omega arith)
people_lighter many dir (suc k) from a h p q l =
    by (ℕ_discrete from a) (λ ne. people_lighter many dir k (suc from) a (and_right (few_of (person_of many dir from)) _ h) (omega arith) (omega arith) l)
  where
    one : length (person_of many dir from).boxes ≤ 256
    one = leb-true (length (person_of many dir from).boxes) 256 (and_left (few_of (person_of many dir from)) _ h)

    by : Dec (from ≡ a) → ((from ≡ a → ⊥) → added_up person_weight (each (person_of many dir) (count_up (suc from) k)) + 256 ≤ 66056 * k)
        → added_up person_weight (each (person_of many dir) (count_up from (suc k))) + 256 ≤ 66056 * suc k
    by (yes e) go =
        let l' : length (person_of many dir from).boxes < 256 = rw e l in
        omega (arith, person_weighs many dir from, people_light many dir k (suc from) (and_right (few_of (person_of many dir from)) _ h))
    by (no e) go = omega (arith, one, person_weighs many dir from, go e)

module _ (n people many : ℕ) (dir : List ℕ) (sound : Sound people many dir) (few : FewBoxes (house_of n people many dir)) where
  boxes_of_all : many ≤ 256 * people
  unfolding house_of
  boxes_of_all = omega (arith, house_weight n people many dir sound, ways_weigh n, people_light many dir people 0 few)

  boxes_of_others : (a : ℕ) → a < people → length (person_at (house_of n people many dir).people a).boxes < 256 → many + 1 ≤ 256 * people
  unfolding house_of
  boxes_of_others a l f =
      let f' : length (person_of many dir a).boxes < 256 = rw (← person_there n people many dir a l) f in
      omega (arith, house_weight n people many dir sound, ways_weigh n, people_lighter many dir people 0 a few (omega arith) (omega arith) f')

-- What one person or one box more weighs.
pub joined_weight : (h : House) (nm : List ℕ) → weight (with_people h (h.people ++ record { name = nm; boxes = at_first; rules = [] } ∷ [])) ≡ weight h + 776
unfolding in_bytes
joined_weight h nm = omega (arith, added_append person_weight h.people (record { name = nm; boxes = at_first; rules = [] } ∷ []))

set_person_weight : (f : Person → ℕ) (ps : List Person) (a : ℕ) (q : Person) → a < length ps → added_up f (set_person ps a q) + f (person_at ps a) ≡ added_up f ps + f q
unfolding set_person person_at
set_person_weight f [] a q l = absurd (omega arith)
set_person_weight f (p ∷ ps) zero q l = omega arith
set_person_weight f (p ∷ ps) (suc a) q l = omega (arith, set_person_weight f ps a q (omega arith))

pub boxed_weight : (h : House) (a : ℕ) (nm : List ℕ) → a < length h.people → weight (change_boxes h a ((person_at h.people a).boxes ++ new_one nm ∷ [])) ≡ weight h + 256
boxed_weight h a nm l =
    let p = person_at h.people a in
    omega (
      arith,
      set_person_weight person_weight h.people a (with_boxes p (p.boxes ++ new_one nm ∷ [])) l,
      added_append (λ b. 256 + letters_weight b.letters) p.boxes (new_one nm ∷ []),
    )

-- Nobody gets more boxes than they may.
pub joined_few : (h : House) (nm : List ℕ) → FewBoxes h → FewBoxes (with_people h (h.people ++ record { name = nm; boxes = at_first; rules = [] } ∷ []))
joined_few h nm f = every_append few_of h.people (record { name = nm; boxes = at_first; rules = [] } ∷ []) f refl

every_set_person : (p : Person → Bool) (ps : List Person) (a : ℕ) (q : Person) → every p ps ≡ true → p q ≡ true → every p (set_person ps a q) ≡ true
unfolding set_person
every_set_person p [] a q h k = refl
every_set_person p (x ∷ xs) zero q h k = rw k (and_right (p x) _ h)
every_set_person p (x ∷ xs) (suc a) q h k = rw (and_left (p x) _ h) (every_set_person p xs a q (and_right (p x) _ h) k)

pub boxed_few : (h : House) (a : ℕ) (nm : List ℕ) → length (person_at h.people a).boxes < 256 → FewBoxes h → FewBoxes (change_boxes h a ((person_at h.people a).boxes ++ new_one nm ∷ []))
boxed_few h a nm l f =
    let bs = (person_at h.people a).boxes in
    every_set_person few_of h.people a (with_boxes (person_at h.people a) (bs ++ new_one nm ∷ [])) f
    (le-leb (length (bs ++ new_one nm ∷ [])) 256 (omega (arith, length-append bs (new_one nm ∷ []))))

-- A box of 256 bytes weighs as much as half a page, so where the weight stays within the bound the directory has a place, too.
pub no_room_heavy : (P more : ℕ) (m : List ℕ) → boxes_count m + 1 ≤ 16384 → 256 * (boxes_count m + 1) ≤ weight_of m + more → no_room P more m ≡ true → 128 * P < weight_of m + more
unfolding no_room
no_room_heavy P more m few w h = elim (cases_Bool (leb (weight_of m + more) (128 * P))) [
  | inl t ↦
      let q = leb-true (weight_of m + more) (128 * P) t in
      let r = le-leb (864 + 12 * (boxes_count m + 1)) (64 * directory_pages P) (omega (arith, boxes_fit P)) in
      absurd (false≢true (rw (t, r) at h))
  | inr t ↦ leb-false (weight_of m + more) (128 * P) t
]

module _ (P n : ℕ) (h : House) (v : World) (U : Up P n h v) where
  -- with room
  pub room_there : (more : ℕ) → no_room P more v.memory ≡ false →
      (weight h + more ≤ 128 * P) × (864 + 12 * (get_or U.header 3 0 + 1) ≤ 64 * directory_pages P) × (864 + 12 * (get_or U.header 3 0 + 1) ≤ length U.dir)
  room_there more e =
      let r = room_says P more v.memory e in
      let a : weight h + more ≤ 128 * P = rw (weight_is P n h v U) at r.0 in
      let b : 864 + 12 * (get_or U.header 3 0 + 1) ≤ 64 * directory_pages P = rw (boxes_is P n h v U) at r.1 in
      (a, b, subst (λ k. 864 + 12 * (get_or U.header 3 0 + 1) ≤ k) (sym (length_dir P Idle (U.house_number ∷ n ∷ P ∷ U.shown ∷ []) U.header U.counting U.coming U.dir v.memory U.memory_is)) b)

  weight_counted : weight h ≡ 520 * get_or U.header 2 0 + 256 * get_or U.header 3 0 + 64 * n
  weight_counted = ap weight U.stands.house_is ∙ house_weight n (get_or U.header 2 0) (get_or U.header 3 0) U.dir U.stands.sound

  -- without
  no_room_so : (more : ℕ) → 256 ≤ more → get_or U.header 3 0 + 1 ≤ 16384 → no_room P more v.memory ≡ true → 128 * P < weight h + more
  no_room_so more l few e =
      omega (arith, weight_is P n h v U, no_room_heavy P more v.memory (omega (arith, boxes_is P n h v U)) (omega (arith, boxes_is P n h v U, weight_is P n h v U, weight_counted)) e)

  -- the boxes that there may be: with fewer people than 64, or with somebody who has fewer than 256
  stands_few : FewBoxes (house_of n (get_or U.header 2 0) (get_or U.header 3 0) U.dir)
  stands_few = subst FewBoxes U.stands.house_is U.stands.few_boxes

  pub no_room_to_join : length h.people < 64 → no_room P 776 v.memory ≡ true → 128 * P < weight h + 776
  no_room_to_join l e =
      no_room_so 776 (omega arith)
      (omega (arith, people_there P n h v U, boxes_of_all n (get_or U.header 2 0) (get_or U.header 3 0) U.dir U.stands.sound stands_few)) e

  pub no_room_for_box : (a : ℕ) → a < length h.people → length (person_at h.people a).boxes < 256 → no_room P 256 v.memory ≡ true → 128 * P < weight h + 256
  no_room_for_box a l f e =
      let f' : length (person_at (house_of n (get_or U.header 2 0) (get_or U.header 3 0) U.dir).people a).boxes < 256 = subst (λ z. length (person_at z.people a).boxes < 256) U.stands.house_is f in
      no_room_so 256 (omega arith)
      (omega (
        arith,
        U.stands.sound.people_few,
        boxes_of_others n (get_or U.header 2 0) (get_or U.header 3 0) U.dir U.stands.sound stands_few a (omega (arith, people_there P n h v U)) f',
      )) e
