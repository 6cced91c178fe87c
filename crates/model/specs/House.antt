-- Commands, how they are spelled, and the plain houses: people, boxes, letters, what waits for other houses. Assumes nothing: these are definitions.
use Rattle.std.specs.Prelude.{ℕ, zero, suc, ◌+◌, ◌-◌, ◌*◌, Bool, true, false, not, ◌&&◌, leb, List, [], ◌∷◌, ◌++◌, length, take, drop, ◌==◌, nat_le, nat_lt, slice_index}
use Rattle.model.specs.Mail.{pick, or, every, any, each, those, flat, added_up, none_of, same, eight, with_length, all_bytes, Letter, Test, always, field_has, field_is, longer, marked, neither, both, either, Action, keep, file, away, on_to, mark, halt, Rule, fate, holds_for, has_mark, in_box, with_new}

-- what can be said to a house
pub data Command : Type 0 where
  join : List ℕ → Command  -- a new person, by name
  hand_in : ℕ → ℕ → List ℕ → Command  -- for a house and a person there, bytes
  boxes : ℕ → Command
  new_box : ℕ → List ℕ → Command
  drop_box : ℕ → List ℕ → Command
  list : ℕ → List ℕ → ℕ → ℕ → Command  -- a box, from a number on, so many
  get : ℕ → List ℕ → ℕ → ℕ → ℕ → Command  -- a letter, from a byte on, so many
  set_mark : ℕ → List ℕ → ℕ → ℕ → Bool → Command
  to_box : ℕ → List ℕ → ℕ → List ℕ → Command
  clear : ℕ → List ℕ → Command  -- letters marked to go, away
  rules : ℕ → List Rule → Command
  find : ℕ → List ℕ → Test → Command
  push : ℕ → Command  -- what waits for a house, to it

abbrev pub bit : Bool → ℕ
bit true = 1
bit false = 0

unfoldable pub test_spelled : Test → List ℕ
test_spelled always = 0 ∷ []
test_spelled (field_has n t) = 1 ∷ with_length n ++ with_length t
test_spelled (field_is n t) = 2 ∷ with_length n ++ with_length t
test_spelled (longer k) = 3 ∷ eight k
test_spelled (marked m) = 4 ∷ m ∷ []
test_spelled (neither t) = 5 ∷ test_spelled t
test_spelled (both t u) = 6 ∷ test_spelled t ++ test_spelled u
test_spelled (either t u) = 7 ∷ test_spelled t ++ test_spelled u

unfoldable pub act_spelled : Action → List ℕ
act_spelled keep = 0 ∷ []
act_spelled (file n) = 1 ∷ with_length n
act_spelled away = 2 ∷ []
act_spelled (on_to d a) = 3 ∷ eight d ++ eight a
act_spelled (mark m) = 4 ∷ m ∷ []
act_spelled halt = 5 ∷ []

abbrev pub rule_spelled : Rule → List ℕ
rule_spelled r = test_spelled r.test ++ eight (length r.acts) ++ flat act_spelled r.acts

abbrev pub rules_spelled : List Rule → List ℕ
rules_spelled rs = eight (length rs) ++ flat rule_spelled rs

unfoldable pub spelled : Command → List ℕ
spelled (join n) = 1 ∷ with_length n
spelled (hand_in d a bs) = 2 ∷ eight d ++ eight a ++ with_length bs
spelled (boxes a) = 3 ∷ eight a
spelled (new_box a n) = 4 ∷ eight a ++ with_length n
spelled (drop_box a n) = 5 ∷ eight a ++ with_length n
spelled (list a n i k) = 6 ∷ eight a ++ with_length n ++ eight i ++ eight k
spelled (get a n i j k) = 7 ∷ eight a ++ with_length n ++ eight i ++ eight j ++ eight k
spelled (set_mark a n i m v) = 8 ∷ eight a ++ with_length n ++ eight i ++ m ∷ bit v ∷ []
spelled (to_box a n i o) = 9 ∷ eight a ++ with_length n ++ eight i ++ with_length o
spelled (clear a n) = 10 ∷ eight a ++ with_length n
spelled (rules a rs) = 11 ∷ eight a ++ rules_spelled rs
spelled (find a n t) = 12 ∷ eight a ++ with_length n ++ test_spelled t
spelled (push d) = 13 ∷ eight d

abbrev pub number_fits : ℕ → Bool
number_fits n = nat_lt n 18446744073709551616

abbrev pub a_name : List ℕ → Bool
a_name n = (nat_le 1 (length n) && nat_le (length n) 64) && all_bytes n

unfoldable pub test_fits : ℕ → Test → Bool
test_fits zero t = false
test_fits (suc d) always = true
test_fits (suc d) (field_has n t) = a_name n && a_name t
test_fits (suc d) (field_is n t) = a_name n && a_name t
test_fits (suc d) (longer k) = number_fits k
test_fits (suc d) (marked m) = nat_lt m 8
test_fits (suc d) (neither t) = test_fits d t
test_fits (suc d) (both t u) = test_fits d t && test_fits d u
test_fits (suc d) (either t u) = test_fits d t && test_fits d u

unfoldable pub act_fits : Action → Bool
act_fits keep = true
act_fits (file n) = a_name n
act_fits away = true
act_fits (on_to d a) = nat_lt d 16 && nat_lt a 64
act_fits (mark m) = nat_lt m 8
act_fits halt = true

abbrev pub rule_fits : Rule → Bool
rule_fits r = test_fits 4 r.test && (nat_le (length r.acts) 8 && every act_fits r.acts)

unfoldable pub fits : Command → Bool
fits (join n) = a_name n
fits (hand_in d a bs) = nat_lt d 16 && (nat_lt a 64 && (nat_le (length bs) 65000 && all_bytes bs))
fits (boxes a) = nat_lt a 64
fits (new_box a n) = nat_lt a 64 && a_name n
fits (drop_box a n) = nat_lt a 64 && a_name n
fits (list a n i k) = (nat_lt a 64 && a_name n) && (number_fits i && (nat_le 1 k && nat_le k 1000))
fits (get a n i j k) = (nat_lt a 64 && a_name n) && (number_fits i && (number_fits j && nat_le k 65536))
fits (set_mark a n i m v) = (nat_lt a 64 && a_name n) && (number_fits i && nat_lt m 8)
fits (to_box a n i o) = (nat_lt a 64 && a_name n) && (number_fits i && a_name o)
fits (clear a n) = nat_lt a 64 && a_name n
fits (rules a rs) = nat_lt a 64 && (nat_le (length rs) 32 && every rule_fits rs)
fits (find a n t) = nat_lt a 64 && (a_name n && test_fits 4 t)
fits (push d) = nat_lt d 16

-- the small core: the commands that people cannot do without; `Known` has the other sets of commands that a house may know
unfoldable pub core : Command → Bool
core (join n) = true
core (hand_in d a bs) = true
core (boxes a) = true
core (new_box a n) = true
core (drop_box a n) = false
core (list a n i k) = true
core (get a n i j k) = true
core (set_mark a n i m v) = true
core (to_box a n i o) = false
core (clear a n) = true
core (rules a rs) = false
core (find a n t) = false
core (push d) = false

abbrev pub everything : Command → Bool
everything c = true

pub record Box : Type 0 where
  pub name : List ℕ
  pub next : ℕ  -- the number that the next letter here gets
  pub letters : List Letter

pub record Person : Type 0 where
  pub name : List ℕ
  pub boxes : List Box
  pub rules : List Rule

-- a letter on its way: for whom, how often it may still be passed on, and its bytes
pub record Out : Type 0 where
  pub person : ℕ
  pub left : ℕ
  pub bytes : List ℕ

-- for one other house: how many letters it is known to have, and those that wait, from there on
pub record Way : Type 0 where
  pub sent : ℕ
  pub waiting : List Out

pub record House : Type 0 where
  pub people : List Person
  pub ways : List Way  -- one for each house, its own left empty
  pub taken : List ℕ  -- how many letters came from each house

abbrev pub Plain : Type 0
Plain = List House

pub record Turn : Type 0 where
  pub reply : ℕ
  pub shows : List (List ℕ)
  pub next : House

abbrev pub no_box : Box
no_box = record { name = []; next = 0; letters = [] }

abbrev pub new_one : List ℕ → Box
new_one n = record { name = n; next = 1; letters = [] }

abbrev pub no_person : Person
no_person = record { name = []; boxes = []; rules = [] }

unfoldable pub person_at : List Person → ℕ → Person
person_at [] a = no_person
person_at (p ∷ ps) zero = p
person_at (p ∷ ps) (suc a) = person_at ps a

unfoldable pub set_person : List Person → ℕ → Person → List Person
set_person [] a q = []
set_person (p ∷ ps) zero q = q ∷ ps
set_person (p ∷ ps) (suc a) q = p ∷ set_person ps a q

abbrev pub with_people : House → List Person → House
with_people h ps = record { people = ps; ways = h.ways; taken = h.taken }

abbrev pub with_boxes : Person → List Box → Person
with_boxes p bs = record { name = p.name; boxes = bs; rules = p.rules }

abbrev pub has_box : List Box → List ℕ → Bool
has_box bs n = any (λ b. same b.name n) bs

unfoldable pub box_of : List Box → List ℕ → Box
box_of [] n = no_box
box_of (b ∷ bs) n = pick (same b.name n) b (box_of bs n)

unfoldable pub set_box : List Box → Box → List Box
set_box [] c = []
set_box (b ∷ bs) c = pick (same b.name c.name) (c ∷ bs) (b ∷ set_box bs c)

abbrev pub put_letter : List ℕ → List ℕ → Box → Box
put_letter ms bs b = record { name = b.name; next = suc b.next; letters = b.letters ++ record { number = b.next; marks = ms; bytes = bs } ∷ [] }

-- boxes that aren't there are "in"; each once
unfoldable pub known_boxes : List Box → List (List ℕ) → List (List ℕ) → List (List ℕ)
known_boxes bs [] so = so
known_boxes bs (n ∷ ns) so = known_boxes bs ns (with_new (pick (has_box bs n) n in_box) so)

unfoldable pub put_all : List ℕ → List ℕ → List (List ℕ) → List Box → List Box
put_all ms bs [] bx = bx
put_all ms bs (n ∷ ns) bx = put_all ms bs ns (set_box bx (put_letter ms bs (box_of bx n)))

unfoldable pub way_at : List Way → ℕ → Way
way_at [] d = record { sent = 0; waiting = [] }
way_at (w ∷ ws) zero = w
way_at (w ∷ ws) (suc d) = way_at ws d

unfoldable pub set_way : List Way → ℕ → Way → List Way
set_way [] d v = []
set_way (w ∷ ws) zero v = v ∷ ws
set_way (w ∷ ws) (suc d) v = w ∷ set_way ws d v

abbrev pub wait_for : House → ℕ → Out → House
wait_for h d o = record { people = h.people; ways = set_way h.ways d (record { sent = (way_at h.ways d).sent; waiting = (way_at h.ways d).waiting ++ o ∷ [] }); taken = h.taken }

-- a letter for somebody here; if there is no such person, for person 0. Who may not pass it on any more gets it into "in", without rules.
abbrev pub somebody : House → ℕ → ℕ
somebody h a = pick (nat_lt a (length h.people)) a 0

abbrev pub put_here : House → ℕ → List ℕ → List ℕ → List (List ℕ) → House
put_here h a ms bs ns =
    with_people h (set_person h.people a (with_boxes (person_at h.people a)
    (put_all ms bs (known_boxes (person_at h.people a).boxes ns []) (person_at h.people a).boxes)))

-- passing on: the first whom rules name, here or at another house
unfoldable pub pass_on : (House → ℕ → House) → ℕ → ℕ → List (List ℕ) → List ℕ → House → House
pass_on here c n [] bs h = h
pass_on here c n (p ∷ ps) bs h =
    pick (slice_index p 0 == c) (here h (slice_index p 1)) (wait_for h (slice_index p 0) (record { person = slice_index p 1; left = n; bytes = bs }))

unfoldable pub deliver : ℕ → ℕ → List ℕ → House → ℕ → House
deliver zero c bs h a = put_here h (somebody h a) [] bs (in_box ∷ [])
deliver (suc n) c bs h a =
    pass_on (λ g b. deliver n c bs g b) c n (fate (person_at h.people (somebody h a)).rules bs).people bs
    (put_here h (somebody h a) (fate (person_at h.people (somebody h a)).rules bs).marks bs (fate (person_at h.people (somebody h a)).rules bs).boxes)

abbrev pub at_first : List Box
at_first = new_one in_box ∷ []

abbrev pub no : ℕ → House → Turn
no n h = record { reply = n; shows = []; next = h }

abbrev pub yes : List (List ℕ) → House → Turn
yes ss h = record { reply = 0; shows = ss; next = h }

unfoldable pub letter_of : List Letter → ℕ → List Letter
letter_of [] i = []
letter_of (l ∷ ls) i = pick (l.number == i) (l ∷ []) (letter_of ls i)

unfoldable pub marks_bits : List ℕ → ℕ → ℕ
marks_bits ms zero = 0
marks_bits ms (suc m) = 2 * marks_bits ms m + bit (has_mark ms (7 - m))

abbrev pub letter_row : Letter → List ℕ
letter_row l = eight l.number ++ marks_bits l.marks 8 ∷ [] ++ eight (length l.bytes)

abbrev pub box_row : Box → List ℕ
box_row b = with_length b.name ++ eight b.next ++ eight (length b.letters)

abbrev pub without_mark : ℕ → List ℕ → List ℕ
without_mark m ms = those (λ k. not (k == m)) ms

unfoldable pub marked_so : ℕ → Bool → ℕ → List Letter → List Letter
marked_so m v i [] = []
marked_so m v i (l ∷ ls) =
    pick (l.number == i)
    (record { number = i; marks = pick v (without_mark m l.marks ++ m ∷ []) (without_mark m l.marks); bytes = l.bytes } ∷ ls)
    (l ∷ marked_so m v i ls)

abbrev pub is_own : ℕ → Action → Bool
is_own c keep = false
is_own c (file n) = false
is_own c away = false
is_own c (on_to d a) = d == c
is_own c (mark m) = false
is_own c halt = false

abbrev pub target : Action → List ℕ
target keep = []
target (file n) = []
target away = []
target (on_to d a) = d ∷ a ∷ []
target (mark m) = []
target halt = []

-- whom rules pass letters on to must be there, as far as one can know here
abbrev pub known_target : ℕ → ℕ → House → List ℕ → Bool
known_target c n h [] = true
known_target c n h (d ∷ as₁) = nat_lt d n && or (not (d == c)) (nat_lt (slice_index as₁ 0) (length h.people))

abbrev pub here_box : House → ℕ → List ℕ → Bool
here_box h a n = nat_lt a (length h.people) && has_box (person_at h.people a).boxes n

abbrev pub the_box : House → ℕ → List ℕ → Box
the_box h a n = box_of (person_at h.people a).boxes n

abbrev pub change_boxes : House → ℕ → List Box → House
change_boxes h a bs = with_people h (set_person h.people a (with_boxes (person_at h.people a) bs))

abbrev pub change_box : House → ℕ → Box → House
change_box h a b = change_boxes h a (set_box (person_at h.people a).boxes b)

abbrev pub with_letters : Box → List Letter → Box
with_letters b ls = record { name = b.name; next = b.next; letters = ls }

-- the turn of house c, one of n, for all commands but push, of which only the refusal is said here
unfoldable pub turn : ℕ → ℕ → House → Command → Turn
turn n c h (join nm) =
    pick (any (λ p. same p.name nm) h.people) (no 4 h)
    (pick (nat_le 64 (length h.people)) (no 7 h)
    (yes (eight (length h.people) ∷ []) (with_people h (h.people ++ record { name = nm; boxes = at_first; rules = [] } ∷ []))))
turn n c h (hand_in d a bs) =
    pick (nat_lt d n)
    (pick (d == c) (pick (nat_lt a (length h.people)) (yes [] (deliver 16 c bs h a)) (no 3 h)) (yes [] (wait_for h d (record { person = a; left = 16; bytes = bs }))))
    (no 5 h)
turn n c h (boxes a) = pick (nat_lt a (length h.people)) (yes (each box_row (person_at h.people a).boxes) h) (no 3 h)
turn n c h (new_box a nm) =
    pick (nat_lt a (length h.people))
    (pick (has_box (person_at h.people a).boxes nm) (no 4 h)
    (pick (nat_le 256 (length (person_at h.people a).boxes)) (no 7 h) (yes [] (change_boxes h a ((person_at h.people a).boxes ++ new_one nm ∷ [])))))
    (no 3 h)
turn n c h (drop_box a nm) =
    pick (here_box h a nm)
    (pick (or (same nm in_box) (not (none_of (the_box h a nm).letters))) (no 6 h)
    (yes [] (change_boxes h a (those (λ b. not (same b.name nm)) (person_at h.people a).boxes))))
    (no 3 h)
turn n c h (list a nm i k) =
    pick (here_box h a nm) (yes (each letter_row (take k (those (λ l. leb i l.number) (the_box h a nm).letters))) h) (no 3 h)
turn n c h (get a nm i j k) =
    pick (here_box h a nm)
    (pick (none_of (letter_of (the_box h a nm).letters i)) (no 3 h) (yes (each (λ l. take k (drop j l.bytes)) (letter_of (the_box h a nm).letters i)) h))
    (no 3 h)
turn n c h (set_mark a nm i m v) =
    pick (here_box h a nm)
    (pick (none_of (letter_of (the_box h a nm).letters i)) (no 3 h) (yes [] (change_box h a (with_letters (the_box h a nm) (marked_so m v i (the_box h a nm).letters)))))
    (no 3 h)
turn n c h (to_box a nm i o) =
    pick (here_box h a nm && here_box h a o)
    (pick (none_of (letter_of (the_box h a nm).letters i)) (no 3 h)
    (pick (same nm o) (no 6 h)
    (let b : Box = with_letters (the_box h a nm) (those (λ l. not (l.number == i)) (the_box h a nm).letters) in
    let g : House = change_box h a b in
    yes (eight (the_box h a o).next ∷ [])
    (change_boxes g a (set_box (person_at g.people a).boxes
    (record { name = o; next = suc (the_box h a o).next; letters = (the_box h a o).letters ++ each (λ l. record { number = (the_box h a o).next; marks = l.marks; bytes = l.bytes }) (letter_of (the_box h a nm).letters i) }))))))
    (no 3 h)
turn n c h (clear a nm) =
    pick (here_box h a nm)
    (yes (each (λ l. eight l.number) (those (λ l. has_mark l.marks 1) (the_box h a nm).letters))
    (change_box h a (with_letters (the_box h a nm) (those (λ l. not (has_mark l.marks 1)) (the_box h a nm).letters))))
    (no 3 h)
turn n c h (rules a rs) =
    pick (nat_lt a (length h.people))
    (pick (every (λ r. every (λ t. known_target c n h (target t)) r.acts) rs)
    (yes [] (with_people h (set_person h.people a (record { name = (person_at h.people a).name; boxes = (person_at h.people a).boxes; rules = rs }))))
    (no 5 h))
    (no 3 h)
turn n c h (find a nm t) =
    pick (here_box h a nm) (yes (each (λ l. eight l.number) (those (λ l. holds_for l.marks l.bytes t) (the_box h a nm).letters)) h) (no 3 h)
turn n c h (push d) = pick (nat_lt d n && not (d == c)) (yes [] h) (no 5 h)

unfoldable pub house_at : Plain → ℕ → House
house_at [] c = record { people = []; ways = []; taken = [] }
house_at (h ∷ hs) zero = h
house_at (h ∷ hs) (suc c) = house_at hs c

unfoldable pub set_house : Plain → ℕ → House → Plain
set_house [] c g = []
set_house (h ∷ hs) zero g = g ∷ hs
set_house (h ∷ hs) (suc c) g = h ∷ set_house hs c g

unfoldable pub set_taken : List ℕ → ℕ → ℕ → List ℕ
set_taken [] c k = []
set_taken (j ∷ js) zero k = k ∷ js
set_taken (j ∷ js) (suc c) k = j ∷ set_taken js c k

-- so many letters from house c come to house d, in order
unfoldable pub come : ℕ → ℕ → List Out → House → House
come c d [] g = g
come c d (o ∷ os) g =
    come c d os (let k : House = deliver o.left d o.bytes g o.person in
    record { people = k.people; ways = k.ways; taken = set_taken k.taken c (suc (slice_index k.taken c)) })

-- pushing from c to d: of the letters that d hasn't taken, more come to d; of all that wait, know are known there to have come
abbrev pub not_taken : Plain → ℕ → ℕ → List Out
not_taken w c d = drop (slice_index (house_at w d).taken c - (way_at (house_at w c).ways d).sent) (way_at (house_at w c).ways d).waiting

unfoldable pub pushed : Plain → ℕ → ℕ → ℕ → ℕ → Plain
pushed w c d more know =
    let v : Plain = set_house w d (come c d (take more (not_taken w c d)) (house_at w d)) in
    set_house v c (record { people = (house_at v c).people; ways = set_way (house_at v c).ways d (record { sent = (way_at (house_at v c).ways d).sent + know; waiting = drop know (way_at (house_at v c).ways d).waiting }); taken = (house_at v c).taken })

-- know is at most how many have come by then
abbrev pub can_know : Plain → ℕ → ℕ → ℕ → ℕ → Bool
can_know w c d more know =
    nat_le more (length (not_taken w c d)) && nat_le ((way_at (house_at w c).ways d).sent + know) (slice_index (house_at w d).taken c + more)

-- what there is to keep, in bytes
abbrev pub letters_weight : List Letter → ℕ
letters_weight ls = added_up (λ l. 256 + length l.bytes) ls

abbrev pub person_weight : Person → ℕ
person_weight p = 512 + length (rules_spelled p.rules) + added_up (λ b. 256 + letters_weight b.letters) p.boxes

abbrev pub weight : House → ℕ
weight h = added_up person_weight h.people + added_up (λ v. 64 + added_up (λ o. 256 + length o.bytes) v.waiting) h.ways
