-- What room for one box more comes to.
use Rattle.std.proofs.Common.{Result, Ok, Err, is_ok, OnOk, OnErr, ◌≡◌, ℕ, ◌+◌, ◌*◌, ◌<◌, ◌≤◌, true, ◌&&◌, ltb, leb, List, length, ap, ◌∙◌, arith}
use mathlib.Core.Bool.{false≢true}
use Rattle.std.proofs.lemmas.Bool.{and_parts, and_from, ltb-true, leb-true, lt-ltb, le-leb}
use Rattle.model.specs.Mail.{in_box}
use Rattle.pages.specs.Words.{patched}
use Rattle.pages.proofs.Words.{length_patched}
use Rattle.mailboxes.specs.Directory.{person_place, box_place, person_record, box_record, with_person, with_box}
use Rattle.mailboxes.specs.Room.{room_for}
use Rattle.mailboxes.proofs.Records.{length_person_record}

module _ (words boxes owner : ℕ) (nm : List ℕ) where
  pub room_parts : room_for words boxes owner nm ≡ true → (owner < 64) × (length nm ≤ 64) × (864 + 12 * (boxes + 1) ≤ words)
  room_parts h =
      let (a, r) = and_parts (ltb owner 64) (leb (length nm) 64 && leb (864 + 12 * (boxes + 1)) words) h in
      let (b, d) = and_parts (leb (length nm) 64) (leb (864 + 12 * (boxes + 1)) words) r in
      (ltb-true owner 64 a, leb-true (length nm) 64 b, leb-true (864 + 12 * (boxes + 1)) words d)

  pub room_from : owner < 64 → length nm ≤ 64 → 864 + 12 * (boxes + 1) ≤ words → room_for words boxes owner nm ≡ true
  room_from a b d =
      and_from (ltb owner 64) (leb (length nm) 64 && leb (864 + 12 * (boxes + 1)) words) (lt-ltb owner 64 a)
      (and_from (leb (length nm) 64) (leb (864 + 12 * (boxes + 1)) words) (le-leb (length nm) 64 b) (le-leb (864 + 12 * (boxes + 1)) words d))

-- what a result without an error gives, and what it asks
pub ok_gives : {E P : Type 0} (r : Result (Unit {0}) E) → is_ok r ≡ true → OnOk r P → P
ok_gives (Ok v) e p = p
ok_gives (Err x) e p = absurd (false≢true e)

pub ok_asks : {E P : Type 0} (r : Result (Unit {0}) E) → is_ok r ≡ true → P → OnOk r P
ok_asks (Ok v) e p = p
ok_asks (Err x) e p = tt

pub ok_no_error : {E : Type 0} (P : Type 0) (r : Result (Unit {0}) E) → is_ok r ≡ true → OnErr r P
ok_no_error P (Ok v) e = tt
ok_no_error P (Err x) e = absurd (false≢true e)

-- a person's record leaves the room for the box
pub person_added : {E : Type 0} (words : List ℕ) (people boxes : ℕ) (nm middle last : List ℕ) (r : Result (Unit {0}) E) → room_for (length words) boxes people nm ≡ true →
    middle ≡ patched words (person_place people) (person_record nm) → is_ok r ≡ room_for (length middle) boxes people in_box → OnOk r (last ≡ with_box boxes middle people in_box) →
    (is_ok r ≡ true) × (last ≡ with_person people boxes words nm)
unfolding with_person with_box
person_added words people boxes nm middle last r h m s w =
    let (few, short, room) = room_parts (length words) boxes people nm h in
    let long : length middle ≡ length words = ap length m ∙ length_patched words (person_place people) (person_record nm) (omega (arith, length_person_record nm)) in
    let yes_room : is_ok r ≡ true = s ∙ room_from (length middle) boxes people in_box few (omega arith) (omega arith) in
    (yes_room, ok_gives r yes_room w ∙ ap (λ l. patched l (box_place boxes) (box_record people in_box)) m)
