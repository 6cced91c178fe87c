-- Registers and records that a new person or box writes, as the definition has them.
use Rattle.std.proofs.Common.{Result, is_ok, OnOk, ◌≡◌, ℕ, ◌+◌, ◌-◌, ◌*◌, ◌<◌, ◌≤◌, Bool, true, false, not, leb, List, [], ◌∷◌, length, take, drop, set, sym, refl, ap, ◌∙◌, arith}
use borrow.Rule.Slice.PartMut.{put_mid}
use Rattle.std.proofs.lemmas.Bool.{and_parts, leb-true, lt-leb, le-leb}
use Rattle.pages.specs.Words.{part, patched}
use Rattle.pages.specs.Geometry.{directory_pages}
use Rattle.pages.proofs.Words.{length_part, length_patched, set_is_patched}
use Rattle.mailboxes.specs.Directory.{with_person, with_box}
use Rattle.mailboxes.specs.Room.{room_for}
use Rattle.mailboxes.proofs.Writes.{set_next}
use Rattle.mailboxes.proofs.Room.{room_from, ok_gives}
use Rattle.mailboxes.proofs.Changes.{length_with_person, length_with_box}
use Rattle.house.specs.Memory.{boxes_count, weight_of}
use Rattle.house.specs.Machine.{no_room}
use Rattle.house.proofs.Writes.{lent_range, put_range}

-- what room there is
pub room_says : (P more : ℕ) (m : List ℕ) → no_room P more m ≡ false → (weight_of m + more ≤ 128 * P) × (864 + 12 * (boxes_count m + 1) ≤ 64 * directory_pages P)
unfolding no_room
room_says P more m h =
    let (a, b) = and_parts (leb (weight_of m + more) (128 * P)) (leb (864 + 12 * (boxes_count m + 1)) (64 * directory_pages P)) (not_false _ h) in
    (leb-true (weight_of m + more) (128 * P) a, leb-true (864 + 12 * (boxes_count m + 1)) (64 * directory_pages P) b)
  where
    not_false : (t : Bool) → not t ≡ false → t ≡ true
    not_false true e = refl
    not_false false e = sym e

pub room_no_weight : (P more : ℕ) (m : List ℕ) (p : ℕ) → p ≡ P → 256 ≤ P → more ≤ 776 → 128 * p - more < weight_of m → true ≡ no_room P more m
unfolding no_room
room_no_weight P more m p e l k h = rw (lt-leb (weight_of m + more) (128 * P) (omega arith))

pub room_for_weight : (P more : ℕ) (m : List ℕ) (p d : ℕ) → p ≡ P → 256 ≤ P → more ≤ 776 → weight_of m ≤ 128 * p - more → d ≡ 64 * directory_pages P →
    not (leb (864 + 12 * (boxes_count m + 1)) d) ≡ no_room P more m
unfolding no_room
room_for_weight P more m p d e l k h is = rw (le-leb (weight_of m + more) (128 * P) (omega arith)) (ap (λ n. not (leb (864 + 12 * (boxes_count m + 1)) n)) is)

-- the counts, the weight, and what is to be shown
pub person_registers : (l : List ℕ) (a b w x : ℕ) → length l ≡ 262144 →
    set (set (set (set l 66 a) 67 b) 70 w) 6 x ≡ patched (patched (patched l 66 (a ∷ b ∷ [])) 70 (w ∷ [])) 6 (x ∷ [])
person_registers l a b w x long =
    let counts : set (set l 66 a) 67 b ≡ patched l 66 (a ∷ b ∷ []) =
    ap (λ r. set r 67 b) (set_is_patched l 66 a (omega arith)) ∙ set_next l 66 (a ∷ []) 67 b refl (omega arith) in
    let l₁ : length (patched l 66 (a ∷ b ∷ [])) ≡ 262144 = length_patched l 66 (a ∷ b ∷ []) (omega arith) ∙ long in
    let l₂ : length (patched (patched l 66 (a ∷ b ∷ [])) 70 (w ∷ [])) ≡ 262144 = length_patched (patched l 66 (a ∷ b ∷ [])) 70 (w ∷ []) (omega arith) ∙ l₁ in
    ap (λ r. set (set r 70 w) 6 x) counts
    ∙ ap (λ r. set r 6 x) (set_is_patched (patched l 66 (a ∷ b ∷ [])) 70 w (omega arith))
    ∙ set_is_patched (patched (patched l 66 (a ∷ b ∷ [])) 70 (w ∷ [])) 6 x (omega arith)

pub box_registers : (l : List ℕ) (b w x : ℕ) → length l ≡ 262144 →
    set (set (set l 67 b) 70 w) 6 x ≡ patched (patched (patched l 67 (b ∷ [])) 70 (w ∷ [])) 6 (x ∷ [])
box_registers l b w x long =
    let l₁ : length (patched l 67 (b ∷ [])) ≡ 262144 = length_patched l 67 (b ∷ []) (omega arith) ∙ long in
    let l₂ : length (patched (patched l 67 (b ∷ [])) 70 (w ∷ [])) ≡ 262144 = length_patched (patched l 67 (b ∷ [])) 70 (w ∷ []) (omega arith) ∙ l₁ in
    ap (λ r. set (set r 70 w) 6 x) (set_is_patched l 67 b (omega arith))
    ∙ ap (λ r. set r 6 x) (set_is_patched (patched l 67 (b ∷ [])) 70 w (omega arith))
    ∙ set_is_patched (patched (patched l 67 (b ∷ [])) 70 (w ∷ [])) 6 x (omega arith)

-- which house it is, and that nothing is to be shown
pub identity_registers : (l : List ℕ) (a b d e : ℕ) → length l ≡ 262144 → set (set (set (set l 3 a) 4 b) 5 d) 6 e ≡ patched l 3 (a ∷ b ∷ d ∷ e ∷ [])
identity_registers l a b d e long =
    ap (λ r. set (set (set r 4 b) 5 d) 6 e) (set_is_patched l 3 a (omega arith))
    ∙ ap (λ r. set (set r 5 d) 6 e) (set_next l 3 (a ∷ []) 4 b refl (omega arith))
    ∙ ap (λ r. set r 6 e) (set_next l 3 (a ∷ b ∷ []) 5 d refl (omega arith))
    ∙ set_next l 3 (a ∷ b ∷ d ∷ []) 6 e refl (omega arith)

-- a record, written over lent words
module _ {E : Type 0} (m : List ℕ) (n b e : ℕ) (long : length m ≡ 262144) (start : b ≡ 2272) (end : e ≡ 2272 + n) (most : e ≤ 199776) (r : Result (Unit {0}) E) (new : List ℕ) where
  pub room_there : (boxes a : ℕ) (nm : List ℕ) → a < 64 → length nm ≤ 64 → 864 + 12 * (boxes + 1) ≤ n →
      is_ok r ≡ room_for (length (take (e - b) (drop b m))) boxes a nm → is_ok r ≡ true
  room_there boxes a nm few short room f =
      let old : List ℕ = take (e - b) (drop b m) in
      let size = ap length (lent_range m b e 2272 n start end) ∙ length_part m 2272 n (omega arith) in
      f ∙ room_from (length old) boxes a nm few short (omega arith)

  pub person_written : (people boxes : ℕ) (nm : List ℕ) → people < 64 → length nm ≤ 64 → 864 + 12 * (boxes + 1) ≤ n →
      is_ok r ≡ room_for (length (take (e - b) (drop b m))) boxes people nm →
      OnOk r (new ≡ with_person people boxes (take (e - b) (drop b m)) nm) →
      put_mid b (e - b) m new ≡ patched m 2272 (with_person people boxes (part m 2272 n) nm)
  person_written people boxes nm few short room f w =
      let old : List ℕ = take (e - b) (drop b m) in
      let lent : old ≡ part m 2272 n = lent_range m b e 2272 n start end in
      let size : length (part m 2272 n) ≡ n = length_part m 2272 n (omega arith) in
      let put : new ≡ with_person people boxes (part m 2272 n) nm = ok_gives r (room_there boxes people nm few short room f) w ∙ ap (λ o. with_person people boxes o nm) lent in
      put_range m b e 2272 n new start end (ap length put ∙ length_with_person people boxes (part m 2272 n) nm few (omega arith) ∙ size) ∙ ap (patched m 2272) put

  pub box_written : (boxes a : ℕ) (nm : List ℕ) → a < 64 → length nm ≤ 64 → 864 + 12 * (boxes + 1) ≤ n →
      is_ok r ≡ room_for (length (take (e - b) (drop b m))) boxes a nm →
      OnOk r (new ≡ with_box boxes (take (e - b) (drop b m)) a nm) →
      put_mid b (e - b) m new ≡ patched m 2272 (with_box boxes (part m 2272 n) a nm)
  box_written boxes a nm few short room f w =
      let old : List ℕ = take (e - b) (drop b m) in
      let lent : old ≡ part m 2272 n = lent_range m b e 2272 n start end in
      let size : length (part m 2272 n) ≡ n = length_part m 2272 n (omega arith) in
      let put : new ≡ with_box boxes (part m 2272 n) a nm = ok_gives r (room_there boxes a nm few short room f) w ∙ ap (λ o. with_box boxes o a nm) lent in
      put_range m b e 2272 n new start end (ap length put ∙ length_with_box boxes (part m 2272 n) a nm (omega arith) ∙ size) ∙ ap (patched m 2272) put
