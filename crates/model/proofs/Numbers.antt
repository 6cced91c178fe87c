-- Numbers in a box rise and stay below the next one, whatever is done with the box.
use Rattle.std.proofs.Common.{◌≡◌, ℕ, suc, ◌<◌, ◌≤◌, Bool, true, not, eqb, ltb, List, [], ◌∷◌, ◌++◌, refl, arith, ltb-true, lt-ltb, eqb-true}
use Rattle.std.proofs.lemmas.Bool.{and_parts, and_from}
use Rattle.model.specs.Mail.{every, those, same, Letter, has_mark, in_box}
use Rattle.model.specs.House.{Command, House, Person, Box, Out, turn, person_at, set_person, box_of, set_box, no_box, no_person, new_one, with_people, with_letters, put_letter, put_all, put_here, marked_so, change_box, the_box, deliver, wait_for, come}
use Rattle.model.specs.Promise.{rising, below, good_box, good_house, NumbersRise}
use Rattle.model.proofs.Places.{person_at_is, set_person_is, pick_both, every_append, every_those, every_set, every_get_or_or, every_mono, pick_cases}
use Rattle.model.proofs.Delivery.{deliver_keeps}
use Rattle.model.proofs.Turns.{turn_keeps, taken_out}

-- every letter's number is above k
abbrev pub above : ℕ → List Letter → Bool
above k ls = every (λ l. ltb k l.number) ls

above_lower : (j k : ℕ) (ls : List Letter) → j ≤ k → above k ls ≡ true → above j ls ≡ true
above_lower j k ls le = every_mono (λ l. ltb k l.number) (λ l. ltb j l.number)
    (λ l h. let n : k < l.number = ltb-true k l.number h in lt-ltb j l.number (omega arith)) ls

pub rising_first : (l : Letter) (ls : List Letter) → rising (l ∷ ls) ≡ true → (above l.number ls ≡ true) × (rising ls ≡ true)
unfolding rising
rising_first l [] h = (refl, refl)
rising_first l (m ∷ ls) h =
    let hs = and_parts (ltb l.number m.number) (rising (m ∷ ls)) h in
    let n : l.number < m.number = ltb-true l.number m.number hs.0 in (
      and_from (ltb l.number m.number) (above l.number ls) hs.0
          (above_lower l.number m.number ls (omega arith) (rising_first m ls hs.1).0),
      hs.1,
    )

rising_more : (l : Letter) (ls : List Letter) → above l.number ls ≡ true → rising ls ≡ true → rising (l ∷ ls) ≡ true
unfolding rising
rising_more l [] a r = refl
rising_more l (m ∷ ls) a r = and_from (ltb l.number m.number) (rising (m ∷ ls)) (and_parts (ltb l.number m.number) (above l.number ls) a).0 r

rising_those : (q : Letter → Bool) (ls : List Letter) → rising ls ≡ true → rising (those q ls) ≡ true
rising_those q [] h = h
rising_those q (l ∷ ls) h =
    let hs = rising_first l ls h in
    pick_both (λ ms. rising ms ≡ true) (q l) (l ∷ those q ls) (those q ls)
    (rising_more l (those q ls) (every_those (λ m. ltb l.number m.number) q ls hs.0) (rising_those q ls hs.1))
    (rising_those q ls hs.1)

rising_push : (ls : List Letter) (m : Letter) → rising ls ≡ true → below m.number ls ≡ true → rising (ls ++ m ∷ []) ≡ true
unfolding rising below
rising_push [] m h b = refl
rising_push (l ∷ ls) m h b =
    let hs = rising_first l ls h in
    let bs = and_parts (ltb l.number m.number) (every (λ (k : Letter). ltb k.number m.number) ls) b in
    rising_more l (ls ++ m ∷ [])
    (every_append (λ k. ltb l.number k.number) ls (m ∷ []) hs.0 (and_from (ltb l.number m.number) true bs.0 refl))
    (rising_push ls m hs.1 bs.1)

-- a mark changes no number
every_marked : (p : ℕ → Bool) (m : ℕ) (v : Bool) (i : ℕ) (ls : List Letter) → every (λ l. p l.number) ls ≡ true → every (λ l. p l.number) (marked_so m v i ls) ≡ true
unfolding marked_so
every_marked p m v i [] h = refl
every_marked p m v i (l ∷ ls) h =
    let hs = and_parts (p l.number) (every (λ (k : Letter). p k.number) ls) h in
    pick_cases (λ ms. every (λ k. p k.number) ms ≡ true) (eqb l.number i) _ (l ∷ marked_so m v i ls)
    (λ e. and_from (p i) (every (λ (k : Letter). p k.number) ls) (rw (eqb-true l.number i e) at hs.0) hs.1)
    (λ e. and_from (p l.number) _ hs.0 (every_marked p m v i ls hs.1))

rising_marked : (m : ℕ) (v : Bool) (i : ℕ) (ls : List Letter) → rising ls ≡ true → rising (marked_so m v i ls) ≡ true
unfolding marked_so
rising_marked m v i [] h = h
rising_marked m v i (l ∷ ls) h =
    let hs = rising_first l ls h in
    pick_cases (λ ms. rising ms ≡ true) (eqb l.number i) _ (l ∷ marked_so m v i ls)
    (λ e. rising_more _ ls (rw (eqb-true l.number i e) at hs.0) hs.1)
    (λ e. rising_more l (marked_so m v i ls) (every_marked (λ k. ltb l.number k) m v i ls hs.0) (rising_marked m v i ls hs.1))

-- Good boxes.
pub good_parts : (b : Box) → good_box b ≡ true → (rising b.letters ≡ true) × (below b.next b.letters ≡ true)
unfolding good_box
good_parts b h = and_parts (rising b.letters) (below b.next b.letters) h

pub good_from : (b : Box) → rising b.letters ≡ true → below b.next b.letters ≡ true → good_box b ≡ true
unfolding good_box
good_from b r l = and_from (rising b.letters) (below b.next b.letters) r l

good_new : (n : List ℕ) → good_box (new_one n) ≡ true
unfolding good_box rising below
good_new n = refl

good_none : good_box no_box ≡ true
unfolding good_box rising below
good_none = refl

good_those : (q : Letter → Bool) (b : Box) → good_box b ≡ true → good_box (with_letters b (those q b.letters)) ≡ true
unfolding below
good_those q b h =
    let hs = good_parts b h in
    good_from (with_letters b (those q b.letters)) (rising_those q b.letters hs.0) (every_those (λ l. ltb l.number b.next) q b.letters hs.1)

good_marked : (m : ℕ) (v : Bool) (i : ℕ) (b : Box) → good_box b ≡ true → good_box (with_letters b (marked_so m v i b.letters)) ≡ true
unfolding below
good_marked m v i b h =
    let hs = good_parts b h in
    good_from (with_letters b (marked_so m v i b.letters)) (rising_marked m v i b.letters hs.0) (every_marked (λ k. ltb k b.next) m v i b.letters hs.1)

-- one letter more, with the next number; under whatever name
good_push : (n : List ℕ) (b : Box) (ms bs : List ℕ) → good_box b ≡ true →
    good_box (record { name = n; next = suc b.next; letters = b.letters ++ record { number = b.next; marks = ms; bytes = bs } ∷ [] }) ≡ true
unfolding below
good_push n b ms bs h =
    let hs = good_parts b h in
    good_from _ (rising_push b.letters _ hs.0 hs.1)
    (every_append (λ l. ltb l.number (suc b.next)) b.letters _
    (every_mono (λ l. ltb l.number b.next) (λ l. ltb l.number (suc b.next))
    (λ l e. let n : l.number < b.next = ltb-true l.number b.next e in lt-ltb l.number (suc b.next) (omega arith)) b.letters hs.1)
    (and_from _ true (lt-ltb b.next (suc b.next) (omega arith)) refl))

pub good_box_of : (bs : List Box) (n : List ℕ) → every good_box bs ≡ true → good_box (box_of bs n) ≡ true
unfolding box_of
good_box_of [] n h = good_none
good_box_of (b ∷ bs) n h =
    let hs = and_parts (good_box b) (every good_box bs) h in
    pick_both (λ c. good_box c ≡ true) (same b.name n) b (box_of bs n) hs.0 (good_box_of bs n hs.1)

pub every_set_box : (p : Box → Bool) (bs : List Box) (c : Box) → every p bs ≡ true → p c ≡ true → every p (set_box bs c) ≡ true
unfolding set_box
every_set_box p [] c h k = refl
every_set_box p (b ∷ bs) c h k =
    let hs = and_parts (p b) (every p bs) h in
    pick_both (λ cs. every p cs ≡ true) (same b.name c.name) (c ∷ bs) (b ∷ set_box bs c)
    (and_from (p c) (every p bs) k hs.1) (and_from (p b) (every p (set_box bs c)) hs.0 (every_set_box p bs c hs.1 k))

good_put_all : (ms bs : List ℕ) (ns : List (List ℕ)) (bx : List Box) → every good_box bx ≡ true → every good_box (put_all ms bs ns bx) ≡ true
unfolding put_all
good_put_all ms bs [] bx h = h
good_put_all ms bs (n ∷ ns) bx h =
    good_put_all ms bs ns (set_box bx (put_letter ms bs (box_of bx n)))
    (every_set_box good_box bx (put_letter ms bs (box_of bx n)) h (good_push (box_of bx n).name (box_of bx n) ms bs (good_box_of bx n h)))

-- Good people.
abbrev good_person : Person → Bool
good_person p = every good_box p.boxes

pub good_boxes_at : (h : House) (a : ℕ) → good_house h ≡ true → every good_box (person_at h.people a).boxes ≡ true
unfolding good_house
good_boxes_at h a g = rw person_at_is (every_get_or_or good_person h.people a no_person g refl)

good_set_person : (h : House) (a : ℕ) (q : Person) → good_house h ≡ true → every good_box q.boxes ≡ true → good_house (with_people h (set_person h.people a q)) ≡ true
unfolding good_house
good_set_person h a q g k = rw set_person_is (every_set good_person h.people a q g (λ l. k))

good_the_box : (h : House) (a : ℕ) (n : List ℕ) → good_house h ≡ true → good_box (the_box h a n) ≡ true
good_the_box h a n g = good_box_of (person_at h.people a).boxes n (good_boxes_at h a g)

good_waiting : (h : House) (d : ℕ) (o : Out) → good_house h ≡ true → good_house (wait_for h d o) ≡ true
unfolding good_house
good_waiting h d o g = g

good_change_box : (h : House) (a : ℕ) (b : Box) → good_house h ≡ true → good_box b ≡ true → good_house (change_box h a b) ≡ true
good_change_box h a b g k = good_set_person h a _ g (every_set_box good_box (person_at h.people a).boxes b (good_boxes_at h a g) k)

good_put_here : (h : House) (a : ℕ) (ms bs : List ℕ) (ns : List (List ℕ)) → good_house h ≡ true → good_house (put_here h a ms bs ns) ≡ true
good_put_here h a ms bs ns g = good_set_person h a _ g (good_put_all ms bs _ (person_at h.people a).boxes (good_boxes_at h a g))

pub good_deliver : (n c : ℕ) (bs : List ℕ) (h : House) (a : ℕ) → good_house h ≡ true → good_house (deliver n c bs h a) ≡ true
good_deliver n c bs h a g = deliver_keeps (λ k. good_house k ≡ true) c good_put_here (λ k d o ne q. good_waiting k d o q) n bs h a g

good_appended : (h : House) (ps : List Person) → good_house h ≡ true → every good_person ps ≡ true → good_house (with_people h (h.people ++ ps)) ≡ true
unfolding good_house
good_appended h ps g k = every_append good_person h.people ps g k

pub good_turn : (n c : ℕ) (h : House) (a : Command) → good_house h ≡ true → good_house (turn n c h a).next ≡ true
good_turn n c h a g = turn_keeps (λ k. good_house k ≡ true) n c h (record {
  none = g;
  joins = λ nm. good_appended h _ g (and_from _ true (and_from _ true (good_new in_box) refl) refl);
  delivers = λ b bs. good_deliver 16 c bs h b g;
  waits = λ d o l ne. good_waiting h d o g;
  makes = λ b nm e. good_set_person h b _ g (every_append good_box (person_at h.people b).boxes _ (good_boxes_at h b g) (and_from _ true (good_new nm) refl));
  drops = λ b nm e. good_set_person h b _ g (every_those good_box (λ x. not (same x.name nm)) (person_at h.people b).boxes (good_boxes_at h b g));
  marks = λ b nm i m v t. good_change_box h b _ g (good_marked m v i (the_box h b nm) (good_the_box h b nm g));
  moves = λ b nm i o l t t₁ s e. good_change_box (taken_out h b nm i) b _
      (good_change_box h b _ g (good_those (λ x. not (eqb x.number i)) (the_box h b nm) (good_the_box h b nm g)))
      (good_push o (the_box h b o) l.marks l.bytes (good_the_box h b o g));
  clears = λ b nm t. good_change_box h b _ g (good_those (λ x. not (has_mark x.marks 1)) (the_box h b nm) (good_the_box h b nm g));
  rules = λ b rs l e. good_set_person h b _ g (good_boxes_at h b g);
}) a

pub numbers_rise : NumbersRise
unfolding NumbersRise
numbers_rise = good_turn

good_taken : (h : House) (js : List ℕ) → good_house h ≡ true → good_house (record { people = h.people; ways = h.ways; taken = js }) ≡ true
unfolding good_house
good_taken h js g = g

pub good_come : (c d : ℕ) (os : List Out) (h : House) → good_house h ≡ true → good_house (come c d os h) ≡ true
unfolding come
good_come c d [] h g = g
good_come c d (o ∷ os) h g = good_come c d os _ (good_taken (deliver o.left d o.bytes h o.person) _ (good_deliver o.left d o.bytes h o.person g))
