-- Two islands, worked out: one table of what is said to the houses and what they show, and what they have to keep in the end.
use Rattle.std.specs.Prelude.{◌≡◌, ℕ, true, false, List, [], ◌∷◌, ◌++◌, length, codes, ◌==◌}
use Prim.Native.String.{String}
use Rattle.model.specs.Mail.{pick, each, Rule, always, field_has, field_is, longer, marked, neither, both, either, Action, file, away, mark, halt, on_to, in_box}
use Rattle.model.specs.House.{Command, join, hand_in, boxes, new_box, drop_box, list, get, set_mark, to_box, clear, rules, find, push, Plain, turn, house_at, set_house, way_at, not_taken, pushed, can_know, weight}
use Rattle.model.specs.Run.{so_many, fault}
use Rattle.model.specs.Promise.{first_house}

-- what is done: a command but push at a house; a push from a house to another; and one that breaks off when so many more have come, and so many are
-- known to have
pub data Deed : Type 0 where
  says : ℕ → Command → Deed
  pushes : ℕ → ℕ → Deed
  breaks_off : ℕ → ℕ → ℕ → ℕ → Deed

-- what is seen of it: the rows shown, and the end, 0 or a refusal
pub record Seen : Type 0 where
  pub shows : List (List ℕ)
  pub end : ℕ

-- the plain houses, of which there are n, after a deed, and what was seen
unfoldable pub after : ℕ → Plain → Deed → Plain
after n w (says c a) = set_house w c (turn n c (house_at w c) a).next
after n w (pushes c d) =
    pick ((turn n c (house_at w c) (push d)).reply == 0) (pushed w c d (length (not_taken w c d)) (length (way_at (house_at w c).ways d).waiting)) w
after n w (breaks_off c d more know) = pick (can_know w c d more know) (pushed w c d more know) w

unfoldable pub seen : ℕ → Plain → Deed → Seen
seen n w (says c a) = record { shows = (turn n c (house_at w c) a).shows; end = (turn n c (house_at w c) a).reply }
seen n w (pushes c d) = record { shows = []; end = (turn n c (house_at w c) (push d)).reply }
seen n w (breaks_off c d more know) = record { shows = []; end = pick (can_know w c d more know) 9 fault }

unfoldable pub all_after : ℕ → Plain → List Deed → Plain
all_after n w [] = w
all_after n w (a ∷ as₁) = all_after n (after n w a) as₁

unfoldable pub all_seen : ℕ → Plain → List Deed → List Seen
all_seen n w [] = []
all_seen n w (a ∷ as₁) = seen n w a ∷ all_seen n (after n w a) as₁

-- Words for the table.
abbrev pub line : String → List ℕ
line s = codes s ++ 10 ∷ []

abbrev pub bill : List ℕ
bill = line "Subject: bill for ice" ++ line "From: Works" ++ line "" ++ line "12 crates"

abbrev pub nets : List ℕ
nets = line "Subject: Nets" ++ line "From: Olsen" ++ line "" ++ line "The nets are dry."

abbrev pub bills : List ℕ
bills = codes "bills"

abbrev pub bo_rules : List Rule
bo_rules =
    record { test = field_has (codes "subject") (codes "BILL"); acts = file bills ∷ mark 2 ∷ halt ∷ [] }
    ∷ record { test = field_is (codes "from") (codes "olsen"); acts = on_to 0 1 ∷ [] }
    ∷ []

abbrev pub all_to : Action → List Rule
all_to a = record { test = always; acts = a ∷ [] } ∷ []

-- a number below 256 as it is shown
abbrev pub number : ℕ → List ℕ
number k = 0 ∷ 0 ∷ 0 ∷ 0 ∷ 0 ∷ 0 ∷ 0 ∷ k ∷ []

abbrev pub nothing_shown : Seen
nothing_shown = record { shows = []; end = 0 }

abbrev pub shows_number : ℕ → Seen
shows_number k = record { shows = number k ∷ []; end = 0 }

-- one letter: its number, its marks as bits, its length
abbrev pub one_letter : ℕ → ℕ → ℕ → Seen
one_letter i ms k = record { shows = (number i ++ ms ∷ [] ++ number k) ∷ []; end = 0 }

-- one box: its name, the next number, how many letters
abbrev pub box_row : List ℕ → ℕ → ℕ → List ℕ
box_row n i k = number (length n) ++ n ++ number i ++ number k

abbrev pub refusal : ℕ → Seen
refusal k = record { shows = []; end = k }

pub record Row : Type 0 where
  pub deed : Deed
  pub seen_is : Seen

abbrev pub gives : Deed → Seen → Row
gives a s = record { deed = a; seen_is = s }

-- anna is person 1 of house 0; bo and cai are persons 1 and 2 of house 1
abbrev pub preparing : List Row
preparing =
    gives (says 0 (join (codes "anna"))) (shows_number 1)
    ∷ gives (says 1 (join (codes "bo"))) (shows_number 1)
    ∷ gives (says 1 (join (codes "cai"))) (shows_number 2)
    ∷ gives (says 1 (new_box 1 bills)) nothing_shown
    ∷ gives (says 1 (rules 1 bo_rules)) nothing_shown
    ∷ gives (says 0 (hand_in 1 1 bill)) nothing_shown
    ∷ gives (says 0 (hand_in 1 1 nets)) nothing_shown
    ∷ gives (says 0 (hand_in 1 7 nets)) nothing_shown
    ∷ []

abbrev pub pushing : List Row
pushing =
    gives (pushes 0 1) nothing_shown
    ∷ gives (says 1 (list 1 bills 1 1000)) (one_letter 1 4 45)
    ∷ gives (says 1 (list 1 in_box 1 1000)) nothing_shown
    ∷ gives (says 1 (list 0 in_box 1 1000)) (one_letter 1 0 45)
    ∷ gives (pushes 1 0) nothing_shown
    ∷ gives (says 0 (list 1 in_box 1 1000)) (one_letter 1 0 45)
    ∷ []

abbrev pub keeping : List Row
keeping =
    gives (says 1 (set_mark 1 bills 1 1 true)) nothing_shown
    ∷ gives (says 1 (to_box 1 bills 1 in_box)) (shows_number 1)
    ∷ gives (says 1 (clear 1 in_box)) (shows_number 1)
    ∷ gives (says 1 (hand_in 1 1 bill)) nothing_shown
    ∷ gives (says 1 (list 1 bills 1 1000)) (one_letter 2 4 45)
    ∷ gives (says 1 (drop_box 1 bills)) (refusal 6)
    ∷ gives (says 1 (rules 2 (all_to (on_to 1 9)))) (refusal 5)
    ∷ gives (says 1 (rules 2 (all_to (on_to 1 2)))) nothing_shown
    ∷ gives (says 1 (hand_in 1 2 nets)) nothing_shown
    ∷ gives (says 1 (list 2 in_box 1 1000)) (one_letter 1 0 45)
    ∷ []

abbrev pub table : List Row
table = preparing ++ pushing ++ keeping

-- what the table of the two islands leaves open: the other commands, refusals, a box that isn't there, a number that isn't used again
abbrev pub further : List Row
further =
    gives (says 1 (boxes 1)) (record { shows = box_row in_box 2 0 ∷ box_row bills 3 1 ∷ []; end = 0 })
    ∷ gives (says 1 (get 1 bills 2 9 4)) (record { shows = codes "bill" ∷ []; end = 0 })
    ∷ gives (says 1 (get 1 bills 1 0 45)) (refusal 3)
    ∷ gives (says 1 (find 1 bills (both (field_has (codes "FROM") (codes "work")) (longer 44)))) (shows_number 2)
    ∷ gives (says 1 (find 1 bills (either (marked 0) (neither (marked 2))))) nothing_shown
    ∷ gives (says 0 (join (codes "anna"))) (refusal 4)
    ∷ gives (says 1 (new_box 1 bills)) (refusal 4)
    ∷ gives (says 0 (hand_in 2 0 bill)) (refusal 5)
    ∷ gives (says 0 (hand_in 0 2 bill)) (refusal 3)
    ∷ gives (pushes 1 1) (refusal 5)
    ∷ gives (pushes 0 1) nothing_shown
    ∷ gives (says 1 (rules 0 (all_to (file (codes "attic"))))) nothing_shown
    ∷ gives (says 1 (hand_in 1 0 bill)) nothing_shown
    ∷ gives (says 1 (list 0 in_box 2 1)) (one_letter 2 0 45)
    ∷ gives (says 1 (rules 0 (all_to away))) nothing_shown
    ∷ gives (says 1 (hand_in 1 0 bill)) nothing_shown
    ∷ gives (says 1 (list 0 in_box 3 1)) nothing_shown
    ∷ gives (says 1 (set_mark 1 bills 2 2 false)) nothing_shown
    ∷ gives (says 1 (set_mark 1 bills 2 1 true)) nothing_shown
    ∷ gives (says 1 (list 1 bills 0 1)) (one_letter 2 2 45)
    ∷ gives (says 1 (clear 1 bills)) (shows_number 2)
    ∷ gives (says 1 (drop_box 1 bills)) nothing_shown
    ∷ gives (says 1 (boxes 1)) (record { shows = box_row in_box 2 0 ∷ []; end = 0 })
    ∷ []

abbrev pub deeds : List Row → List Deed
deeds rs = each (λ r. r.deed) rs

abbrev pub two_houses : Plain
two_houses = so_many 2 (first_house 2)

-- each row shows what it says; and so much is to be kept at the end of the table
pub record TwoIslands : Type 0 where
  pub rows : all_seen 2 two_houses (deeds (table ++ further)) ≡ each (λ r. r.seen_is) (table ++ further)
  pub weight_0 : weight (house_at (all_after 2 two_houses (deeds table)) 0) ≡ 1981
  pub weight_1 : weight (house_at (all_after 2 two_houses (deeds table)) 1) ≡ 3745
  -- a push that breaks off when two letters have come, and one is known to have, and the next push: the third comes, and all is as after one push
  pub broken_off : all_after 2 two_houses (deeds preparing ++ breaks_off 0 1 2 1 ∷ pushes 0 1 ∷ []) ≡ all_after 2 two_houses (deeds preparing ++ pushes 0 1 ∷ [])
  pub broken_end : seen 2 (all_after 2 two_houses (deeds preparing)) (breaks_off 0 1 2 1) ≡ refusal 9
