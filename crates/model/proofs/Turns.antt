-- What a turn can do to a house: the changes, one by one. What all of them keep, every turn keeps.
use Rattle.std.proofs.Common.{◌≡◌, ℕ, suc, ◌<◌, Bool, true, false, not, ◌&&◌, eqb, ltb, leb, ◌≢◌, List, [], ◌∷◌, ◌++◌, length, sym, refl, ltb-true}
use mathlib.Core.Bool.{false≢true}
use borrow.Author.Tests.{eqb-false}
use Rattle.std.proofs.lemmas.Bool.{and_parts}
use Rattle.model.specs.Mail.{or, every, any, those, same, none_of, Letter, Rule, has_mark, in_box}
use Rattle.model.specs.House.{Command, join, hand_in, boxes, new_box, drop_box, list, get, set_mark, to_box, clear, rules, find, push, House, Box, Out, Turn, turn, person_at, set_person, new_one, at_first, with_people, with_letters, letter_of, marked_so, change_boxes, change_box, here_box, the_box, has_box, known_target, target, deliver, wait_for}
use Rattle.model.specs.Promise.{OthersStay}
use Rattle.model.proofs.Places.{pick_both, pick_cases, or_false, person_at_other, differ}

-- at most one letter is found by its number
pub letter_of_one : (ls : List Letter) (i : ℕ) → none_of (letter_of ls i) ≡ false → (l : Letter) × (letter_of ls i ≡ l ∷ [])
unfolding letter_of
letter_of_one [] i = λ h. absurd (false≢true (sym h))
letter_of_one (l ∷ ls) i =
    pick_both (λ ms. none_of ms ≡ false → (m : Letter) × (ms ≡ m ∷ [])) (eqb l.number i) (l ∷ []) (letter_of ls i) (λ h. (l, refl)) (letter_of_one ls i)

-- a letter out of one box, and last in the other
abbrev pub taken_out : House → ℕ → List ℕ → ℕ → House
taken_out h a nm i = change_box h a (with_letters (the_box h a nm) (those (λ l. not (eqb l.number i)) (the_box h a nm).letters))

abbrev pub with_one_more : List ℕ → Box → Letter → Box
with_one_more o b l = record { name = o; next = suc b.next; letters = b.letters ++ record { number = b.next; marks = l.marks; bytes = l.bytes } ∷ [] }

pub record Changes (P : House → Type 0) (n c : ℕ) (h : House) : Type 0 where
  pub none : P h
  pub joins : (nm : List ℕ) → P (with_people h (h.people ++ record { name = nm; boxes = at_first; rules = [] } ∷ []))
  pub delivers : (a : ℕ) (bs : List ℕ) → P (deliver 16 c bs h a)
  pub waits : (d : ℕ) (o : Out) → d < n → d ≢ c → P (wait_for h d o)
  pub makes : (a : ℕ) (nm : List ℕ) → has_box (person_at h.people a).boxes nm ≡ false → P (change_boxes h a ((person_at h.people a).boxes ++ new_one nm ∷ []))
  pub drops : (a : ℕ) (nm : List ℕ) → same nm in_box ≡ false → P (change_boxes h a (those (λ b. not (same b.name nm)) (person_at h.people a).boxes))
  pub marks : (a : ℕ) (nm : List ℕ) (i m : ℕ) (v : Bool) → here_box h a nm ≡ true → P (change_box h a (with_letters (the_box h a nm) (marked_so m v i (the_box h a nm).letters)))
  pub moves : (a : ℕ) (nm : List ℕ) (i : ℕ) (o : List ℕ) (l : Letter) → here_box h a nm ≡ true → here_box h a o ≡ true → same nm o ≡ false →
      letter_of (the_box h a nm).letters i ≡ l ∷ [] → P (change_box (taken_out h a nm i) a (with_one_more o (the_box h a o) l))
  pub clears : (a : ℕ) (nm : List ℕ) → here_box h a nm ≡ true → P (change_box h a (with_letters (the_box h a nm) (those (λ l. not (has_mark l.marks 1)) (the_box h a nm).letters)))
  pub rules : (a : ℕ) (rs : List Rule) → a < length h.people → every (λ r. every (λ t. known_target c n h (target t)) r.acts) rs ≡ true →
      P (with_people h (set_person h.people a (record { name = (person_at h.people a).name; boxes = (person_at h.people a).boxes; rules = rs })))

module _ (P : House → Type 0) (n c : ℕ) (h : House) (k : Changes P n c h) where
  N : Turn → Type 0
  N t = P t.next

  pub turn_keeps : (a : Command) → P (turn n c h a).next
  unfolding turn N
  turn_keeps (join nm) =
      pick_both N (any (λ p. same p.name nm) h.people) _ _ k.none (pick_both N (leb 64 (length h.people)) _ _ k.none (k.joins nm))
  turn_keeps (hand_in d a bs) =
      pick_cases N (ltb d n) _ _
      (λ l. pick_cases N (eqb d c) _ _
      (λ e. pick_both N (ltb a (length h.people)) _ _ (k.delivers a bs) k.none)
      (λ e. k.waits d _ (ltb-true d n l) (eqb-false d c e)))
      (λ l. k.none)
  turn_keeps (boxes a) = pick_both N (ltb a (length h.people)) _ _ k.none k.none
  turn_keeps (new_box a nm) =
      pick_both N (ltb a (length h.people)) _ _
      (pick_cases N (has_box (person_at h.people a).boxes nm) _ _ (λ e. k.none)
      (λ e. pick_both N (leb 256 (length (person_at h.people a).boxes)) _ _ k.none (k.makes a nm e)))
      k.none
  turn_keeps (drop_box a nm) =
      pick_both N (here_box h a nm) _ _
      (pick_cases N (or (same nm in_box) (not (none_of (the_box h a nm).letters))) _ _ (λ e. k.none)
      (λ e. k.drops a nm (or_false (same nm in_box) (not (none_of (the_box h a nm).letters)) e).0))
      k.none
  turn_keeps (list a nm i j) = pick_both N (here_box h a nm) _ _ k.none k.none
  turn_keeps (get a nm i j m) =
      pick_both N (here_box h a nm) _ _ (pick_both N (none_of (letter_of (the_box h a nm).letters i)) _ _ k.none k.none) k.none
  turn_keeps (set_mark a nm i m v) =
      pick_cases N (here_box h a nm) _ _
      (λ b. pick_both N (none_of (letter_of (the_box h a nm).letters i)) _ _ k.none (k.marks a nm i m v b))
      (λ b. k.none)
  turn_keeps (to_box a nm i o) =
      pick_cases N (here_box h a nm && here_box h a o) _ _
      (λ b. pick_cases N (none_of (letter_of (the_box h a nm).letters i)) _ _ (λ e. k.none)
      (λ e. pick_cases N (same nm o) _ _ (λ s. k.none)
      (λ s.
      let bs = and_parts (here_box h a nm) (here_box h a o) b in
      let one = letter_of_one (the_box h a nm).letters i e in
      rw one.1 (k.moves a nm i o one.0 bs.0 bs.1 s one.1))))
      (λ b. k.none)
  turn_keeps (clear a nm) = pick_cases N (here_box h a nm) _ _ (k.clears a nm) (λ b. k.none)
  turn_keeps (rules a rs) =
      pick_cases N (ltb a (length h.people)) _ _
      (λ l. pick_cases N (every (λ r. every (λ t. known_target c n h (target t)) r.acts) rs) _ _ (k.rules a rs (ltb-true a (length h.people) l)) (λ e. k.none))
      (λ l. k.none)
  turn_keeps (find a nm t) = pick_both N (here_box h a nm) _ _ k.none k.none
  turn_keeps (push d) = pick_both N (ltb d n && not (eqb d c)) _ _ k.none k.none

-- A mark changes nothing of anybody else.
pub others_stay : OthersStay
unfolding OthersStay turn
others_stay n c h a b nm i m v ne =
    pick_both SameB (here_box h a nm) _ _
    (pick_both SameB (none_of (letter_of (the_box h a nm).letters i)) _ _ refl (person_at_other h.people a b _ (λ e. differ a b ne (sym e))))
    refl
  where
    SameB : Turn → Type 0
    SameB t = person_at t.next.people b ≡ person_at h.people b
