-- No number of a box is used again while the box is there: what each change of a house does to its boxes.
use Rattle.std.proofs.Common.{◌≡◌, ℕ, suc, ◌<◌, ◌≤◌, Bool, true, false, not, eqb, ltb, ◌≢◌, ◌⊎◌, List, [], ◌∷◌, ◌++◌, length, get_or, take, sym, refl, ap, ◌∙◌, subst, inl, inr, true≢false, arith, ltb-true, ne_eqb, eqb-true}
use mathlib.Core.Bool.{false≢true}
use Rattle.std.proofs.lemmas.List.{get_or_append_left, get_or_past}
use Rattle.std.proofs.lemmas.Bool.{and_parts, cases_lt, cases_Bool}
use Rattle.model.specs.Mail.{pick, every, those, same, none_of, Letter, Rule, has_mark, in_box}
use Rattle.model.specs.House.{Command, House, Person, Box, Out, turn, person_at, set_person, no_person, with_boxes, with_letters, has_box, here_box, the_box, box_of, set_box, put_letter, put_all, known_boxes, put_here, letter_of, marked_so, without_mark, change_boxes, change_box, deliver, come, house_at, not_taken}
use Rattle.model.specs.Promise.{rising, good_box, good_house}
use Rattle.model.specs.Always.{turned, came, Ready, Later, NeverAgain}
use Rattle.model.proofs.Places.{person_at_is, length_set_person, at_set_person, at_set_house, differ, every_those, every_mono}
use Rattle.model.proofs.Boxes.{same_true, box_of_name, has_box_set, box_of_set, box_of_set_other, box_of_append, without_box, box_of_without, has_box_dropped, known_boxes_there}
use Rattle.model.proofs.Numbers.{above, rising_first, good_parts, good_boxes_at, good_box_of}
use Rattle.model.proofs.Delivery.{deliver_keeps}
use Rattle.model.proofs.Turns.{turn_keeps, taken_out}
use Rattle.model.proofs.Ready.{has_in_at}
use Rattle.model.proofs.Always.{sound_of, at_pushed}

-- One box.
pub later_same : (b : Box) → Later b b
later_same b = record { next = omega arith; found = λ i l h e. (l, e, refl) }

pub later_later : (b c d : Box) → Later b c → Later c d → Later b d
later_later b c d p q = record {
  next = omega (arith, p.next, q.next);
  found = λ i l h e.
      let k = q.found i l (omega (arith, p.next)) e in
      let m = p.found i k.0 h k.1 in
      (m.0, m.1, m.2 ∙ k.2);
}

letter_of_other : (ls : List Letter) (m : Letter) (i : ℕ) → m.number ≢ i → letter_of (ls ++ m ∷ []) i ≡ letter_of ls i
unfolding letter_of
letter_of_other [] m i ne = rw (ne_eqb m.number i ne)
letter_of_other (l ∷ ls) m i ne = ap (pick (eqb l.number i) (l ∷ [])) (letter_of_other ls m i ne)

-- a letter more, under the next number; in a box of whatever name
pub later_push : (n : List ℕ) (b : Box) (ms bs : List ℕ) →
    Later b (record { name = n; next = suc b.next; letters = b.letters ++ record { number = b.next; marks = ms; bytes = bs } ∷ [] })
later_push n b ms bs = record {
  next = omega arith;
  found = λ i l h e. (l, sym (letter_of_other b.letters (record { number = b.next; marks = ms; bytes = bs }) i (omega arith)) ∙ e, refl);
}

-- none is found below all numbers
letter_of_above : (k i : ℕ) (ls : List Letter) → i ≤ k → above k ls ≡ true → letter_of ls i ≡ []
unfolding letter_of
letter_of_above k i [] h a = refl
letter_of_above k i (l ∷ ls) h a =
    let as₁ = and_parts (ltb k l.number) (above k ls) a in
    let n : k < l.number = ltb-true k l.number as₁.0 in
    rw (ne_eqb l.number i (omega arith)) (letter_of_above k i ls h as₁.1)

found_those : (q : Letter → Bool) (ls : List Letter) (i : ℕ) (l : Letter) → rising ls ≡ true → letter_of (those q ls) i ≡ l ∷ [] → letter_of ls i ≡ l ∷ []
unfolding letter_of
found_those q [] i l r = λ e. e
found_those q (x ∷ ls) i l r = go (q x) (eqb x.number i) refl (rising_first x ls r).0 (found_those q ls i l (rising_first x ls r).1)
  where
    go : (t u : Bool) → eqb x.number i ≡ u → above x.number ls ≡ true → (letter_of (those q ls) i ≡ l ∷ [] → letter_of ls i ≡ l ∷ []) →
        letter_of (pick t (x ∷ those q ls) (those q ls)) i ≡ l ∷ [] → pick u (x ∷ []) (letter_of ls i) ≡ l ∷ []
    go true true n a k e = rw n at e
    go true false n a k e = k (rw n at e)
    go false true n a k e =
        let is : x.number ≡ i = eqb-true x.number i n in
        let gone : letter_of (those q ls) i ≡ [] = letter_of_above x.number i (those q ls) (omega arith) (every_those (λ y. ltb x.number y.number) q ls a) in
        absurd (true≢false (ap none_of (sym gone ∙ e)))
    go false false n a k e = k e

found_marked : (m : ℕ) (v : Bool) (j : ℕ) (ls : List Letter) (i : ℕ) (l : Letter) → letter_of (marked_so m v j ls) i ≡ l ∷ [] →
    (k : Letter) × (letter_of ls i ≡ k ∷ []) × (k.bytes ≡ l.bytes)
unfolding letter_of marked_so
found_marked m v j [] i l = λ e. absurd (true≢false (ap none_of e))
found_marked m v j (x ∷ ls) i l = go (eqb x.number j) refl (eqb x.number i) refl (found_marked m v j ls i l)
  where
    new : Letter
    new = record { number = j; marks = pick v (without_mark m x.marks ++ m ∷ []) (without_mark m x.marks); bytes = x.bytes }

    go : (t : Bool) → eqb x.number j ≡ t → (u : Bool) → eqb x.number i ≡ u →
        (letter_of (marked_so m v j ls) i ≡ l ∷ [] → (k : Letter) × (letter_of ls i ≡ k ∷ []) × (k.bytes ≡ l.bytes)) →
        letter_of (pick t (new ∷ ls) (x ∷ marked_so m v j ls)) i ≡ l ∷ [] → (k : Letter) × (pick u (x ∷ []) (letter_of ls i) ≡ k ∷ []) × (k.bytes ≡ l.bytes)
    go true n true o k e = (x, refl, ap (λ (ys : List Letter). (get_or ys 0 new).bytes) (rw (← eqb-true x.number j n, o) at e))
    go true n false o k e = (l, (rw (← eqb-true x.number j n, o) at e), refl)
    go false n true o k e = (l, (rw o at e), refl)
    go false n false o k e = k (rw o at e)

pub later_those : (q : Letter → Bool) (b : Box) → good_box b ≡ true → Later b (with_letters b (those q b.letters))
later_those q b g = record { next = omega arith; found = λ i l h e. (l, found_those q b.letters i l (good_parts b g).0 e, refl) }

pub later_marked : (m : ℕ) (v : Bool) (j : ℕ) (b : Box) → Later b (with_letters b (marked_so m v j b.letters))
later_marked m v j b = record { next = omega arith; found = λ i l h e. found_marked m v j b.letters i l e }

-- The boxes of one person: the same names, each box later on.
pub record AllLater (bs cs : List Box) : Type 0 where
  pub names : (n : List ℕ) → has_box cs n ≡ has_box bs n
  pub boxes : (n : List ℕ) → has_box bs n ≡ true → Later (box_of bs n) (box_of cs n)

pub all_later_same : (bs : List Box) → AllLater bs bs
all_later_same bs = record { names = λ n. refl; boxes = λ n h. later_same (box_of bs n) }

pub all_later_set : (bs cs : List Box) (b : Box) → has_box bs b.name ≡ true → Later (box_of bs b.name) b → AllLater bs cs → AllLater bs (set_box cs b)
all_later_set bs cs b h l k = record {
  names = λ n. has_box_set cs b n ∙ k.names n;
  boxes = λ n i. at_name n i (cases_Bool (same b.name n));
}
  where
    at_name : (n : List ℕ) → has_box bs n ≡ true → (same b.name n ≡ true) ⊎ (same b.name n ≡ false) → Later (box_of bs n) (box_of (set_box cs b) n)
    at_name n i (inl e) = rw (← same_true b.name n e, box_of_set cs b (k.names b.name ∙ h)) l
    at_name n i (inr e) = rw (box_of_set_other cs b n e) (k.boxes n i)

pub all_later_put : (ms t : List ℕ) (bs : List Box) (ns : List (List ℕ)) (cs : List Box) → every (has_box bs) ns ≡ true → AllLater bs cs → AllLater bs (put_all ms t ns cs)
unfolding put_all
all_later_put ms t bs [] cs h k = k
all_later_put ms t bs (n ∷ ns) cs h k =
    let hs = and_parts (has_box bs n) (every (has_box bs) ns) h in
    let name : (box_of cs n).name ≡ n = box_of_name cs n (k.names n ∙ hs.0) in
    all_later_put ms t bs ns _ hs.1
    (all_later_set bs cs (put_letter ms t (box_of cs n)) (rw name hs.0)
    (rw name (later_later (box_of bs n) (box_of cs n) _ (k.boxes n hs.0) (later_push n (box_of cs n) ms t))) k)

-- A house.
abbrev pub boxes_at : House → ℕ → List Box
boxes_at h a = (person_at h.people a).boxes

-- changed boxes of one person, and everybody else's
at_changed : (g : House) (a : ℕ) (bs : List Box) (Q : ℕ → List Box → Type 0) → (a < length g.people → Q a bs) → ((b : ℕ) → Q b (boxes_at g b)) →
    (b : ℕ) → Q b (boxes_at (change_boxes g a bs) b)
at_changed g a bs Q q r = at_set_person g.people a (with_boxes (person_at g.people a) bs) (λ b p. Q b p.boxes) q r

-- the same people, each with the same boxes, each box later on
pub record HouseLater (h g : House) : Type 0 where
  pub people : length g.people ≡ length h.people
  pub boxes : (a : ℕ) → AllLater (boxes_at h a) (boxes_at g a)

pub house_later_same : (h : House) → HouseLater h h
house_later_same h = record { people = refl; boxes = λ a. all_later_same (boxes_at h a) }

change_later : (h g : House) (a : ℕ) (bs : List Box) → HouseLater h g → (a < length g.people → AllLater (boxes_at h a) bs) → HouseLater h (change_boxes g a bs)
change_later h g a bs k q = record {
  people = length_set_person g.people a _ ∙ k.people;
  boxes = at_changed g a bs (λ b cs. AllLater (boxes_at h b) cs) q k.boxes;
}

change_box_later : (h g : House) (a : ℕ) (nm : List ℕ) (b : Box) → b.name ≡ nm → has_box (boxes_at h a) nm ≡ true → Later (box_of (boxes_at h a) nm) b →
    HouseLater h g → HouseLater h (change_box g a b)
change_box_later h g a nm b e i l k = change_later h g a _ k (λ o. all_later_set (boxes_at h a) (boxes_at g a) b (rw e i) (subst (λ (m : List ℕ). Later (box_of (boxes_at h a) m) b) (sym e) l) (k.boxes a))

pub put_here_later : (n : ℕ) (h : House) → Ready n h → (g : House) (a : ℕ) (ms t : List ℕ) (ns : List (List ℕ)) → HouseLater h g → HouseLater h (put_here g a ms t ns)
put_here_later n h r g a ms t ns k =
    change_later h g a _ k
    (λ l.
    let i : has_box (boxes_at h a) in_box ≡ true = has_in_at n h a r (rw (← k.people) l) in
    let there : every (has_box (boxes_at g a)) (known_boxes (boxes_at g a) ns []) ≡ true = known_boxes_there (boxes_at g a) ns [] ((k.boxes a).names in_box ∙ i) refl in
    all_later_put ms t (boxes_at h a) (known_boxes (boxes_at g a) ns []) (boxes_at g a)
    (every_mono (has_box (boxes_at g a)) (has_box (boxes_at h a)) (λ m e. sym ((k.boxes a).names m) ∙ e) (known_boxes (boxes_at g a) ns []) there)
    (k.boxes a))

pub deliver_later : (n : ℕ) (h : House) → Ready n h → (m c : ℕ) (t : List ℕ) (g : House) (a : ℕ) → HouseLater h g → HouseLater h (deliver m c t g a)
deliver_later n h r m c t g a k =
    deliver_keeps (HouseLater h) c (put_here_later n h r) (λ f d o ne q. record { people = q.people; boxes = q.boxes }) m t g a k

pub come_later : (n : ℕ) (h : House) → Ready n h → (c d : ℕ) (os : List Out) (g : House) → HouseLater h g → HouseLater h (come c d os g)
unfolding come
come_later n h r c d [] g k = k
come_later n h r c d (o ∷ os) g k =
    let q = deliver_later n h r o.left d o.bytes g o.person k in
    come_later n h r c d os _ (record { people = q.people; boxes = q.boxes })

-- A turn may also bring people and boxes, and take a box away.
abbrev BoxesLater : House → House → Type 0
BoxesLater h g = (a : ℕ) (nm : List ℕ) → has_box (boxes_at h a) nm ≡ true → has_box (boxes_at g a) nm ≡ true → Later (box_of (boxes_at h a) nm) (box_of (boxes_at g a) nm)

from_all : (h g : House) → HouseLater h g → BoxesLater h g
from_all h g k a nm i j = (k.boxes a).boxes nm i

joined_later : (h : House) (q : Person) (a : ℕ) (nm : List ℕ) → has_box (boxes_at h a) nm ≡ true →
    Later (box_of (boxes_at h a) nm) (box_of (person_at (h.people ++ q ∷ []) a).boxes nm)
joined_later h q a nm i = go (cases_lt a (length h.people))
  where
    go : (a < length h.people) ⊎ (length h.people ≤ a) → Later (box_of (boxes_at h a) nm) (box_of (person_at (h.people ++ q ∷ []) a).boxes nm)
    go (inl l) =
        subst (λ (p : Person). Later (box_of (boxes_at h a) nm) (box_of p.boxes nm))
        (person_at_is h.people a ∙ sym (get_or_append_left h.people (q ∷ []) no_person a l) ∙ sym (person_at_is (h.people ++ q ∷ []) a))
        (later_same (box_of (boxes_at h a) nm))
    go (inr l) = absurd (false≢true (subst (λ (p : Person). has_box p.boxes nm ≡ true) (person_at_is h.people a ∙ get_or_past h.people a no_person l) i))

dropped_later : (nm : List ℕ) (bs : List Box) (nm₁ : List ℕ) → has_box (without_box nm bs) nm₁ ≡ true → Later (box_of bs nm₁) (box_of (without_box nm bs) nm₁)
dropped_later nm bs nm₁ j = go (cases_Bool (same nm nm₁))
  where
    go : (same nm nm₁ ≡ true) ⊎ (same nm nm₁ ≡ false) → Later (box_of bs nm₁) (box_of (without_box nm bs) nm₁)
    go (inl e) = absurd (false≢true (sym (has_box_dropped nm bs) ∙ (rw (← same_true nm nm₁ e) at j)))
    go (inr e) = rw (box_of_without nm bs nm₁ e) (later_same (box_of bs nm₁))

pub here_has : (h : House) (a : ℕ) (nm : List ℕ) → here_box h a nm ≡ true → has_box (boxes_at h a) nm ≡ true
here_has h a nm t = (and_parts (ltb a (length h.people)) (has_box (boxes_at h a) nm) t).1

rules_later : (h : House) (b : ℕ) (rs : List Rule) (a : ℕ) (nm : List ℕ) →
    Later (box_of (boxes_at h a) nm) (box_of (person_at (set_person h.people b (record { name = (person_at h.people b).name; boxes = boxes_at h b; rules = rs })) a).boxes nm)
rules_later h b rs a nm =
    at_set_person h.people b _ (λ x p. Later (box_of (boxes_at h x) nm) (box_of p.boxes nm)) (λ l. later_same (box_of (boxes_at h b) nm)) (λ x. later_same (box_of (boxes_at h x) nm)) a

turn_later : (n c : ℕ) (h : House) (a : Command) → Ready n h → good_house h ≡ true → BoxesLater h (turn n c h a).next
turn_later n c h a r g = turn_keeps (BoxesLater h) n c h (record {
  none = λ b nm i j. later_same (box_of (boxes_at h b) nm);
  joins = λ nm b nm₁ i j. joined_later h _ b nm₁ i;
  delivers = λ b t. from_all h _ (deliver_later n h r 16 c t h b (house_later_same h));
  waits = λ d o l ne b nm i j. later_same (box_of (boxes_at h b) nm);
  makes = λ b nm e. at_changed h b _ (λ b₁ cs. (nm₁ : List ℕ) → has_box (boxes_at h b₁) nm₁ ≡ true → has_box cs nm₁ ≡ true → Later (box_of (boxes_at h b₁) nm₁) (box_of cs nm₁))
      (λ l nm₁ i j. rw (box_of_append (boxes_at h b) _ nm₁ i) (later_same (box_of (boxes_at h b) nm₁)))
      (λ b₁ nm₁ i j. later_same (box_of (boxes_at h b₁) nm₁));
  drops = λ b nm e. at_changed h b _ (λ b₁ cs. (nm₁ : List ℕ) → has_box (boxes_at h b₁) nm₁ ≡ true → has_box cs nm₁ ≡ true → Later (box_of (boxes_at h b₁) nm₁) (box_of cs nm₁))
      (λ l nm₁ i j. dropped_later nm (boxes_at h b) nm₁ j)
      (λ b₁ nm₁ i j. later_same (box_of (boxes_at h b₁) nm₁));
  marks = λ b nm i m v t. from_all h _ (changed b nm t _ (later_marked m v i (the_box h b nm)));
  moves = λ b nm i o l t t₁ s e. from_all h _
      (change_box_later h (taken_out h b nm i) b o _ refl (here_has h b o t₁) (later_push o (the_box h b o) l.marks l.bytes)
      (changed b nm t _ (later_those (λ x. not (eqb x.number i)) (the_box h b nm) (good b nm))));
  clears = λ b nm t. from_all h _ (changed b nm t _ (later_those (λ x. not (has_mark x.marks 1)) (the_box h b nm) (good b nm)));
  rules = λ b rs l e b₁ nm i j. rules_later h b rs b₁ nm;
}) a
  where
    good : (b : ℕ) (nm : List ℕ) → good_box (the_box h b nm) ≡ true
    good b nm = good_box_of (boxes_at h b) nm (good_boxes_at h b g)

    changed : (b : ℕ) (nm : List ℕ) → here_box h b nm ≡ true → (ls : List Letter) → Later (the_box h b nm) (with_letters (the_box h b nm) ls) →
        HouseLater h (change_box h b (with_letters (the_box h b nm) ls))
    changed b nm t ls k = let i = here_has h b nm t in change_box_later h h b nm _ (box_of_name (boxes_at h b) nm i) i k (house_later_same h)

pub never_again : NeverAgain
unfolding NeverAgain
never_again n w v r (turned c a l) x b nm lx =
    at_set_house w c (turn n c (house_at w c) a).next (λ z g. here_box (house_at w z) b nm ≡ true → here_box g b nm ≡ true → Later (the_box (house_at w z) b nm) (the_box g b nm))
    (λ k i j. turn_later n c (house_at w c) a ((sound_of r).ready c l) ((sound_of r).good c l) b nm (here_has (house_at w c) b nm i) (here_has (turn n c (house_at w c) a).next b nm j))
    (λ z i j. later_same (the_box (house_at w z) b nm)) x
never_again n w v r (came c d more know lc ld ne can) x b nm lx =
    let s = sound_of r in
    at_pushed n w c d more know (differ c d ne) (rw s.houses lc) (rw s.houses ld)
    (λ z g. here_box (house_at w z) b nm ≡ true → here_box g b nm ≡ true → Later (the_box (house_at w z) b nm) (the_box g b nm))
    (λ i j. ((come_later n (house_at w d) (s.ready d ld) c d (take more (not_taken w c d)) (house_at w d) (house_later_same (house_at w d))).boxes b).boxes nm (here_has (house_at w d) b nm i))
    (λ i j. later_same (the_box (house_at w c) b nm))
    (λ z i j. later_same (the_box (house_at w z) b nm)) x
