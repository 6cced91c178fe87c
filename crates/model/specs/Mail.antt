-- Letters, what a rule asks of them, and what rules do with them. Assumes nothing: these are definitions.
use Rattle.std.specs.Prelude.{ℕ, zero, suc, ◌+◌, ◌/◌, ◌%◌, Bool, true, false, not, ◌&&◌, ltb, List, [], ◌∷◌, ◌++◌, length, drop, ◌==◌, nat_eq, nat_le, nat_lt}

abbrev pub pick : {A : Type 0} → Bool → A → A → A
pick true a b = a
pick false a b = b

abbrev pub or : Bool → Bool → Bool
or true b = true
or false b = b

abbrev pub every : {A : Type 0} → (A → Bool) → List A → Bool
every p [] = true
every p (x ∷ xs) = p x && every p xs

abbrev pub any : {A : Type 0} → (A → Bool) → List A → Bool
any p [] = false
any p (x ∷ xs) = or (p x) (any p xs)

abbrev pub each : {A B : Type 0} → (A → B) → List A → List B
each f [] = []
each f (x ∷ xs) = f x ∷ each f xs

abbrev pub those : {A : Type 0} → (A → Bool) → List A → List A
those p [] = []
those p (x ∷ xs) = pick (p x) (x ∷ those p xs) (those p xs)

abbrev pub flat : {A B : Type 0} → (A → List B) → List A → List B
flat f [] = []
flat f (x ∷ xs) = f x ++ flat f xs

abbrev pub added_up : {A : Type 0} → (A → ℕ) → List A → ℕ
added_up f [] = 0
added_up f (x ∷ xs) = f x + added_up f xs

abbrev pub none_of : {A : Type 0} → List A → Bool
none_of [] = true
none_of (x ∷ xs) = false

unfoldable pub same : List ℕ → List ℕ → Bool
same [] [] = true
same [] (y ∷ ys) = false
same (x ∷ xs) [] = false
same (x ∷ xs) (y ∷ ys) = x == y && same xs ys

unfoldable pub earlier : List ℕ → List ℕ → Bool
earlier [] [] = false
earlier [] (y ∷ ys) = true
earlier (x ∷ xs) [] = false
earlier (x ∷ xs) (y ∷ ys) = pick (nat_lt x y) true (x == y && earlier xs ys)

-- eight bytes, the highest first; and bytes with their count before them
unfoldable pub in_bytes : ℕ → ℕ → List ℕ → List ℕ
in_bytes zero n bs = bs
in_bytes (suc k) n bs = in_bytes k (n / 256) (n % 256 ∷ bs)

abbrev pub eight : ℕ → List ℕ
eight n = in_bytes 8 n []

abbrev pub with_length : List ℕ → List ℕ
with_length bs = eight (length bs) ++ bs

abbrev pub all_bytes : List ℕ → Bool
all_bytes bs = every (λ b. ltb b 256) bs

abbrev pub small : ℕ → ℕ
small c = pick (nat_le 65 c && nat_le c 90) (c + 32) c

abbrev pub smalls : List ℕ → List ℕ
smalls bs = each small bs

-- lines end in byte 10; a head is the lines before the first empty one; a field of it is a line "name: value", names in small or capital letters alike
unfoldable pub line_of : List ℕ → List ℕ
line_of [] = []
line_of (c ∷ cs) = pick (c == 10) [] (c ∷ line_of cs)

unfoldable pub after_line : List ℕ → List ℕ
after_line [] = []
after_line (c ∷ cs) = pick (c == 10) cs (after_line cs)

unfoldable pub head_lines : ℕ → List ℕ → List (List ℕ)
head_lines zero bs = []
head_lines (suc n) bs = pick (none_of (line_of bs)) [] (line_of bs ∷ head_lines n (after_line bs))

unfoldable pub starts_with : List ℕ → List ℕ → Bool
starts_with [] ws = true
starts_with (p ∷ ps) [] = false
starts_with (p ∷ ps) (w ∷ ws) = p == w && starts_with ps ws

unfoldable pub holds : List ℕ → List ℕ → Bool
holds ps [] = none_of ps
holds ps (w ∷ ws) = or (starts_with ps (w ∷ ws)) (holds ps ws)

unfoldable pub no_blanks : List ℕ → List ℕ
no_blanks [] = []
no_blanks (c ∷ cs) = pick (c == 32) (no_blanks cs) (c ∷ cs)

-- the values of a field, small letters, without blanks before them
abbrev pub field : List ℕ → List ℕ → List (List ℕ)
field name bs =
    each (λ l. no_blanks (drop (1 + length name) (smalls l))) (those (λ l. starts_with (smalls name ++ 58 ∷ []) (smalls l)) (head_lines (length bs) bs))

pub data Test : Type 0 where
  always : Test
  field_has : List ℕ → List ℕ → Test
  field_is : List ℕ → List ℕ → Test
  longer : ℕ → Test
  marked : ℕ → Test  -- a mark that the letter has
  neither : Test → Test
  both : Test → Test → Test
  either : Test → Test → Test

pub record Letter : Type 0 where
  pub number : ℕ  -- in its box; rising, never used again
  pub marks : List ℕ  -- each once, below 8; 0 is read, 1 is to go
  pub bytes : List ℕ

abbrev pub has_mark : List ℕ → ℕ → Bool
has_mark ms m = any (nat_eq m) ms

unfoldable pub holds_for : List ℕ → List ℕ → Test → Bool
holds_for ms bs always = true
holds_for ms bs (field_has n t) = any (holds (smalls t)) (field n bs)
holds_for ms bs (field_is n t) = any (same (smalls t)) (field n bs)
holds_for ms bs (longer k) = nat_lt k (length bs)
holds_for ms bs (marked m) = has_mark ms m
holds_for ms bs (neither t) = not (holds_for ms bs t)
holds_for ms bs (both t u) = holds_for ms bs t && holds_for ms bs u
holds_for ms bs (either t u) = or (holds_for ms bs t) (holds_for ms bs u)

pub data Action : Type 0 where
  keep : Action  -- into the box "in"
  file : List ℕ → Action  -- into a box; if it isn't there, "in"
  away : Action  -- not into "in" just because nothing else was done with it
  on_to : ℕ → ℕ → Action  -- to somebody at a house
  mark : ℕ → Action
  halt : Action  -- no more rules

pub record Rule : Type 0 where
  pub test : Test
  pub acts : List Action

-- what rules do with a letter: boxes it goes into, in order, each once; people it goes on to; its marks; whether it is still to be kept, and whether
-- rules go on
pub record Fate : Type 0 where
  pub boxes : List (List ℕ)
  pub people : List (List ℕ)  -- each a house and a person
  pub marks : List ℕ
  pub still : Bool
  pub goes_on : Bool

abbrev pub in_box : List ℕ
in_box = 105 ∷ 110 ∷ []

abbrev pub with_new : List ℕ → List (List ℕ) → List (List ℕ)
with_new n ns = pick (any (same n) ns) ns (ns ++ n ∷ [])

unfoldable pub acted : Action → Fate → Fate
acted keep f = record { boxes = with_new in_box f.boxes; people = f.people; marks = f.marks; still = false; goes_on = f.goes_on }
acted (file n) f = record { boxes = with_new n f.boxes; people = f.people; marks = f.marks; still = false; goes_on = f.goes_on }
acted away f = record { boxes = f.boxes; people = f.people; marks = f.marks; still = false; goes_on = f.goes_on }
acted (on_to d a) f = record { boxes = f.boxes; people = with_new (d ∷ a ∷ []) f.people; marks = f.marks; still = false; goes_on = f.goes_on }
acted (mark m) f = record { boxes = f.boxes; people = f.people; marks = pick (has_mark f.marks m) f.marks (f.marks ++ m ∷ []); still = f.still; goes_on = f.goes_on }
acted halt f = record { boxes = f.boxes; people = f.people; marks = f.marks; still = f.still; goes_on = false }

unfoldable pub all_acted : List Action → Fate → Fate
all_acted [] f = f
all_acted (a ∷ as₁) f = all_acted as₁ (pick f.goes_on (acted a f) f)

unfoldable pub ruled : List Rule → List ℕ → Fate → Fate
ruled [] bs f = f
ruled (r ∷ rs) bs f = ruled rs bs (pick (f.goes_on && holds_for f.marks bs r.test) (all_acted r.acts f) f)

abbrev pub fresh : Fate
fresh = record { boxes = []; people = []; marks = []; still = true; goes_on = true }

-- the fate of a letter: if it was still to be kept, "in"
unfoldable pub fate : List Rule → List ℕ → Fate
fate rs bs = pick (ruled rs bs fresh).still (acted keep (ruled rs bs fresh)) (ruled rs bs fresh)
