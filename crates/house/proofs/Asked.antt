-- The commands join and new box up to the point where something is to be kept: refused as the plain house refuses them, or for want of room; or all that is needed to do them.
use Rattle.std.proofs.Common.{◌≡◌, ℕ, ◌+◌, ◌*◌, ◌<◌, ◌≤◌, Bool, true, false, ltb, leb, ◌⊎◌, List, [], ◌∷◌, ◌++◌, length, get_or, is_some, Some, refl, ap, ◌∙◌, inl, inr, arith, ltb-true, leb-false}
use Rattle.std.proofs.lemmas.Bool.{cases_Bool}
use Rattle.model.specs.Mail.{any, same, eight}
use Rattle.model.specs.House.{join, new_box, fits, a_name, House, Plain, turn, yes, person_at, has_box, with_people, change_boxes, new_one, at_first, weight, house_at}
use Rattle.model.specs.Run.{said, World}
use Rattle.model.specs.Promise.{Said}
use Rattle.model.specs.Known.{also, nothing}
use Rattle.pages.specs.Geometry.{directory_pages}
use Rattle.mailboxes.specs.Directory.{find_person, find_box, count_boxes}
use Rattle.commands.specs.Reader.{command_of}
use Rattle.house.specs.Memory.{people_of, boxes_count, directory_of}
use Rattle.house.specs.Machine.{own, obeys, joins, makes_box, no_room, commit, person_added, box_added}
use Rattle.house.proofs.Places.{and_left, and_right}
use Rattle.house.proofs.Rest.{Up}
use Rattle.house.proofs.Counts.{people_is, people_there, count_is, person_found, box_found}
use Rattle.house.proofs.Room.{room_there, no_room_to_join, no_room_for_box, joined_weight, boxed_weight}
use Rattle.house.proofs.Refusals.{obeys_said, turned_down, too_heavy}
use Rattle.house.proofs.Does.{Does}

fits_join : (text nm : List ℕ) → Said text (join nm) → a_name nm ≡ true
unfolding Said fits
fits_join text nm e = e.1

fits_new_box : (text : List ℕ) (a : ℕ) (nm : List ℕ) → Said text (new_box a nm) → (a < 64) × (a_name nm ≡ true)
unfolding Said fits
fits_new_box text a nm e = (ltb-true a 64 (and_left (ltb a 64) _ e.1), and_right (ltb a 64) _ e.1)

-- the house with one person, or one box, more
abbrev pub joined : House → List ℕ → House
joined h nm = with_people h (h.people ++ record { name = nm; boxes = at_first; rules = [] } ∷ [])

abbrev pub boxed : House → ℕ → List ℕ → House
boxed h a nm = change_boxes h a ((person_at h.people a).boxes ++ new_one nm ∷ [])

-- what the machine begins and the plain house does, with what that needs
pub record CanJoin (P n : ℕ) (s : Plain) (c : ℕ) (text : List ℕ) (v : World) (U : Up P n (house_at s c) v) (nm : List ℕ) : Type 0 where
  pub is_name : a_name nm ≡ true
  pub begins : own.step v.memory (said text) ≡ commit P 0 (person_added P nm v.memory)
  pub turns : turn (length s) c (house_at s c) (join nm) ≡ yes (eight (length (house_at s c).people) ∷ []) (joined (house_at s c) nm)
  pub few_people : get_or U.header 2 0 < 64
  pub light : weight (house_at s c) + 776 ≤ 128 * P
  pub room : 864 + 12 * (get_or U.header 3 0 + 1) ≤ 64 * directory_pages P
  pub room_in_dir : 864 + 12 * (get_or U.header 3 0 + 1) ≤ length U.dir

pub record CanMakeBox (P n : ℕ) (s : Plain) (c : ℕ) (text : List ℕ) (v : World) (U : Up P n (house_at s c) v) (a : ℕ) (nm : List ℕ) : Type 0 where
  pub is_name : a_name nm ≡ true
  pub begins : own.step v.memory (said text) ≡ commit P 0 (box_added P a nm v.memory)
  pub turns : turn (length s) c (house_at s c) (new_box a nm) ≡ yes [] (boxed (house_at s c) a nm)
  pub owner_there : a < get_or U.header 2 0
  pub few_boxes : length (person_at (house_at s c).people a).boxes < 256
  pub light : weight (house_at s c) + 256 ≤ 128 * P
  pub room : 864 + 12 * (get_or U.header 3 0 + 1) ≤ 64 * directory_pages P
  pub room_in_dir : 864 + 12 * (get_or U.header 3 0 + 1) ≤ length U.dir

module _ (P n : ℕ) (s : Plain) (c : ℕ) (text : List ℕ) (ls : ℕ) (up : Bool) (v : World) (enough : 256 ≤ P) (few : n ≤ 16) (U : Up P n (house_at s c) v) where
  module _ (nm : List ℕ) (e : command_of text ≡ Some (join nm)) (is_said : Said text (join nm)) where
    abbrev same_name : Bool
    same_name = any (λ p. same p.name nm) (house_at s c).people

    found : is_some (find_person (people_of v.memory) (directory_of P v.memory) nm) ≡ same_name
    found = person_found P n (house_at s c) v U nm (fits_join text nm is_said)

    join_known : same_name ≡ true → Does P n s c text ls up v
    unfolding obeys joins turn also nothing
    join_known t = turned_down P n s c text ls up v enough few U (join nm) e is_said refl 4 refl (rw (found, t)) (rw t)

    join_full : same_name ≡ false → leb 64 (length (house_at s c).people) ≡ true → Does P n s c text ls up v
    unfolding obeys joins turn also nothing
    join_full t f = turned_down P n s c text ls up v enough few U (join nm) e is_said refl 7 refl (rw (found, t, people_is P n (house_at s c) v U, f)) (rw (t, f))

    join_turns : same_name ≡ false → leb 64 (length (house_at s c).people) ≡ false → turn (length s) c (house_at s c) (join nm) ≡ yes (eight (length (house_at s c).people) ∷ []) (joined (house_at s c) nm)
    unfolding turn
    join_turns t f = rw (t, f)

    join_heavy : same_name ≡ false → leb 64 (length (house_at s c).people) ≡ false → no_room P 776 v.memory ≡ true → Does P n s c text ls up v
    unfolding obeys joins also nothing
    join_heavy t f r =
        let turns = join_turns t f in
        let w : weight (turn (length s) c (house_at s c) (join nm)).next ≡ weight (house_at s c) + 776 = ap (λ z. weight z.next) turns ∙ joined_weight (house_at s c) nm in
        too_heavy P n s c text ls up v enough few U (join nm) e is_said refl (rw (found, t, people_is P n (house_at s c) v U, f, r)) (ap (λ z. z.reply) turns)
        (omega arith) (omega (arith, no_room_to_join P n (house_at s c) v U (leb-false 64 (length (house_at s c).people) f) r))

    can_join : same_name ≡ false → leb 64 (length (house_at s c).people) ≡ false → no_room P 776 v.memory ≡ false → CanJoin P n s c text v U nm
    unfolding obeys joins
    can_join t f r =
        let there = room_there P n (house_at s c) v U 776 r in
        record {
          is_name = fits_join text nm is_said;
          begins = obeys_said P n s c text ls up v enough few U (join nm) (commit P 0 (person_added P nm v.memory)) e (rw (found, t, people_is P n (house_at s c) v U, f, r));
          turns = join_turns t f;
          few_people = omega (arith, people_there P n (house_at s c) v U, leb-false 64 (length (house_at s c).people) f);
          light = there.0;
          room = there.1;
          room_in_dir = there.2;
        }

    pub join_asked : Does P n s c text ls up v ⊎ CanJoin P n s c text v U nm
    join_asked = elim (cases_Bool same_name) [
      | inl t ↦ inl (join_known t)
      | inr t ↦ elim (cases_Bool (leb 64 (length (house_at s c).people))) [
        | inl f ↦ inl (join_full t f)
        | inr f ↦ elim (cases_Bool (no_room P 776 v.memory)) [ inl r ↦ inl (join_heavy t f r) | inr r ↦ inr (can_join t f r) ]
      ]
    ]

  module _ (a : ℕ) (nm : List ℕ) (e : command_of text ≡ Some (new_box a nm)) (is_said : Said text (new_box a nm)) where
    box_for_nobody : ltb a (length (house_at s c).people) ≡ false → Does P n s c text ls up v
    unfolding obeys makes_box turn also nothing
    box_for_nobody o = turned_down P n s c text ls up v enough few U (new_box a nm) e is_said refl 3 refl (rw (people_is P n (house_at s c) v U, o)) (rw o)

    module _ (o : ltb a (length (house_at s c).people) ≡ true) where
      owner : a < length (house_at s c).people
      owner = ltb-true a (length (house_at s c).people) o

      abbrev same_box : Bool
      same_box = has_box (person_at (house_at s c).people a).boxes nm

      abbrev full : Bool
      full = leb 256 (length (person_at (house_at s c).people a).boxes)

      box_at : is_some (find_box (boxes_count v.memory) (directory_of P v.memory) a nm) ≡ same_box
      box_at = box_found P n (house_at s c) v U a nm owner (fits_new_box text a nm is_said).1

      counted : leb 256 (count_boxes (boxes_count v.memory) (directory_of P v.memory) a) ≡ full
      counted = ap (leb 256) (count_is P n (house_at s c) v U a owner)

      box_known : same_box ≡ true → Does P n s c text ls up v
      unfolding obeys makes_box turn also nothing
      box_known t = turned_down P n s c text ls up v enough few U (new_box a nm) e is_said refl 4 refl (rw (people_is P n (house_at s c) v U, o, box_at, t)) (rw (o, t))

      boxes_full : same_box ≡ false → full ≡ true → Does P n s c text ls up v
      unfolding obeys makes_box turn also nothing
      boxes_full t f = turned_down P n s c text ls up v enough few U (new_box a nm) e is_said refl 7 refl (rw (people_is P n (house_at s c) v U, o, box_at, t, counted, f)) (rw (o, t, f))

      box_turns : same_box ≡ false → full ≡ false → turn (length s) c (house_at s c) (new_box a nm) ≡ yes [] (boxed (house_at s c) a nm)
      unfolding turn
      box_turns t f = rw (o, t, f)

      few_there : full ≡ false → length (person_at (house_at s c).people a).boxes < 256
      few_there f = leb-false 256 (length (person_at (house_at s c).people a).boxes) f

      box_heavy : same_box ≡ false → full ≡ false → no_room P 256 v.memory ≡ true → Does P n s c text ls up v
      unfolding obeys makes_box also nothing
      box_heavy t f r =
          let turns = box_turns t f in
          let w : weight (turn (length s) c (house_at s c) (new_box a nm)).next ≡ weight (house_at s c) + 256 = ap (λ z. weight z.next) turns ∙ boxed_weight (house_at s c) a nm owner in
          too_heavy P n s c text ls up v enough few U (new_box a nm) e is_said refl (rw (people_is P n (house_at s c) v U, o, box_at, t, counted, f, r)) (ap (λ z. z.reply) turns)
          (omega arith) (omega (arith, no_room_for_box P n (house_at s c) v U a owner (few_there f) r))

      can_make_box : same_box ≡ false → full ≡ false → no_room P 256 v.memory ≡ false → CanMakeBox P n s c text v U a nm
      unfolding obeys makes_box
      can_make_box t f r =
          let there = room_there P n (house_at s c) v U 256 r in
          record {
            is_name = (fits_new_box text a nm is_said).1;
            begins = obeys_said P n s c text ls up v enough few U (new_box a nm) (commit P 0 (box_added P a nm v.memory)) e (rw (people_is P n (house_at s c) v U, o, box_at, t, counted, f, r));
            turns = box_turns t f;
            owner_there = omega (arith, people_there P n (house_at s c) v U, owner);
            few_boxes = few_there f;
            light = there.0;
            room = there.1;
            room_in_dir = there.2;
          }

      for_somebody : Does P n s c text ls up v ⊎ CanMakeBox P n s c text v U a nm
      for_somebody = elim (cases_Bool same_box) [
        | inl t ↦ inl (box_known t)
        | inr t ↦ elim (cases_Bool full) [
          | inl f ↦ inl (boxes_full t f)
          | inr f ↦ elim (cases_Bool (no_room P 256 v.memory)) [ inl r ↦ inl (box_heavy t f r) | inr r ↦ inr (can_make_box t f r) ]
        ]
      ]

    pub new_box_asked : Does P n s c text ls up v ⊎ CanMakeBox P n s c text v U a nm
    new_box_asked = elim (cases_Bool (ltb a (length (house_at s c).people))) [ inl o ↦ for_somebody o | inr o ↦ inl (box_for_nobody o) ]
