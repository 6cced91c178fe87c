-- Places in lists: the lists of people, ways, houses and pages are lists as in the library, so that its laws hold of them; and what holds of each element.
use Rattle.std.proofs.Common.{◌≡◌, ℕ, zero, suc, ◌<◌, ◌≤◌, Bool, true, false, ◌≢◌, ◌⊎◌, List, [], ◌∷◌, ◌++◌, length, get_or, take, set, sym, refl, ap, inl, inr, arith, length-set, get_or-set_other, get_or-set_same}
use mathlib.Core.Bool.{false≢true}
use Rattle.std.proofs.lemmas.List.{set-set, set_comm, set_past, take_all}
use Rattle.std.proofs.lemmas.Bool.{and_parts, and_from, cases_eq, cases_lt}
use Rattle.model.specs.Mail.{pick, or, every, those}
use Rattle.model.specs.House.{House, Person, Way, Plain, no_person, person_at, set_person, way_at, set_way, house_at, set_house, set_taken}
use Rattle.model.specs.Device.{Page, page_at, set_page}
use Rattle.model.specs.Promise.{Never}

pub differ : (a b : ℕ) → (a ≡ b → Never) → a ≢ b
differ a b ne e = let z : zero ≡ suc zero = ne e in omega arith

pub person_at_is : (ps : List Person) (a : ℕ) → person_at ps a ≡ get_or ps a no_person
unfolding person_at
person_at_is [] a = refl
person_at_is (p ∷ ps) zero = refl
person_at_is (p ∷ ps) (suc a) = person_at_is ps a

pub set_person_is : (ps : List Person) (a : ℕ) (q : Person) → set_person ps a q ≡ set ps a q
unfolding set_person
set_person_is [] a q = refl
set_person_is (p ∷ ps) zero q = refl
set_person_is (p ∷ ps) (suc a) q = ap {B = List Person} (λ r. p ∷ r) (set_person_is ps a q)

abbrev pub no_way : Way
no_way = record { sent = 0; waiting = [] }

pub way_at_is : (ws : List Way) (d : ℕ) → way_at ws d ≡ get_or ws d no_way
unfolding way_at
way_at_is [] d = refl
way_at_is (w ∷ ws) zero = refl
way_at_is (w ∷ ws) (suc d) = way_at_is ws d

pub set_way_is : (ws : List Way) (d : ℕ) (v : Way) → set_way ws d v ≡ set ws d v
unfolding set_way
set_way_is [] d v = refl
set_way_is (w ∷ ws) zero v = refl
set_way_is (w ∷ ws) (suc d) v = ap {B = List Way} (λ r. w ∷ r) (set_way_is ws d v)

abbrev pub no_house : House
no_house = record { people = []; ways = []; taken = [] }

pub house_at_is : (w : Plain) (c : ℕ) → house_at w c ≡ get_or w c no_house
unfolding house_at
house_at_is [] c = refl
house_at_is (h ∷ hs) zero = refl
house_at_is (h ∷ hs) (suc c) = house_at_is hs c

pub set_house_is : (w : Plain) (c : ℕ) (g : House) → set_house w c g ≡ set w c g
unfolding set_house
set_house_is [] c g = refl
set_house_is (h ∷ hs) zero g = refl
set_house_is (h ∷ hs) (suc c) g = ap {B = Plain} (λ r. h ∷ r) (set_house_is hs c g)

pub set_taken_is : (js : List ℕ) (c k : ℕ) → set_taken js c k ≡ set js c k
unfolding set_taken
set_taken_is [] c k = refl
set_taken_is (j ∷ js) zero k = refl
set_taken_is (j ∷ js) (suc c) k = ap {B = List ℕ} (λ r. j ∷ r) (set_taken_is js c k)

pub page_at_is : (ps : List Page) (k : ℕ) → page_at ps k ≡ get_or ps k []
unfolding page_at
page_at_is [] k = refl
page_at_is (p ∷ ps) zero = refl
page_at_is (p ∷ ps) (suc k) = page_at_is ps k

pub set_page_is : (ps : List Page) (k : ℕ) (q : Page) → set_page ps k q ≡ set ps k q
unfolding set_page
set_page_is [] k q = refl
set_page_is (p ∷ ps) zero q = refl
set_page_is (p ∷ ps) (suc k) q = ap {B = List Page} (λ r. p ∷ r) (set_page_is ps k q)

-- each place as it is after a write there, and after a write elsewhere
pub ruleset as_lists = (person_at_is, set_person_is, way_at_is, set_way_is, house_at_is, set_house_is, set_taken_is, page_at_is, set_page_is)

pub person_at_other : (ps : List Person) (a b : ℕ) (q : Person) → b ≢ a → person_at (set_person ps a q) b ≡ person_at ps b
person_at_other ps a b q ne = simp (as_lists, get_or-set_other)

pub person_at_same : (ps : List Person) (a : ℕ) (q : Person) → a < length ps → person_at (set_person ps a q) a ≡ q
person_at_same ps a q h = simp (as_lists, get_or-set_same)

pub set_person_past : (ps : List Person) (a : ℕ) (q : Person) → length ps ≤ a → set_person ps a q ≡ ps
set_person_past ps a q h = rw set_person_is (set_past ps a q h)

pub length_set_person : (ps : List Person) (a : ℕ) (q : Person) → length (set_person ps a q) ≡ length ps
length_set_person ps a q = simp (as_lists, length-set)

pub page_at_other : (ps : List Page) (k j : ℕ) (q : Page) → j ≢ k → page_at (set_page ps k q) j ≡ page_at ps j
page_at_other ps k j q ne = simp (as_lists, get_or-set_other)

pub way_at_same : (ws : List Way) (d : ℕ) (v : Way) → d < length ws → way_at (set_way ws d v) d ≡ v
way_at_same ws d v h = simp (as_lists, get_or-set_same)

pub way_at_other : (ws : List Way) (d e : ℕ) (v : Way) → e ≢ d → way_at (set_way ws d v) e ≡ way_at ws e
way_at_other ws d e v ne = simp (as_lists, get_or-set_other)

pub house_at_same : (w : Plain) (c : ℕ) (g : House) → c < length w → house_at (set_house w c g) c ≡ g
house_at_same w c g h = simp (as_lists, get_or-set_same)

pub house_at_other : (w : Plain) (c d : ℕ) (g : House) → d ≢ c → house_at (set_house w c g) d ≡ house_at w d
house_at_other w c d g ne = simp (as_lists, get_or-set_other)

pub length_set_way : (ws : List Way) (d : ℕ) (v : Way) → length (set_way ws d v) ≡ length ws
length_set_way ws d v = simp (as_lists, length-set)

pub length_set_house : (w : Plain) (c : ℕ) (g : House) → length (set_house w c g) ≡ length w
length_set_house w c g = simp (as_lists, length-set)

pub length_set_taken : (js : List ℕ) (c k : ℕ) → length (set_taken js c k) ≡ length js
length_set_taken js c k = simp (as_lists, length-set)

pub set_way_again : (ws : List Way) (d : ℕ) (v u : Way) → set_way (set_way ws d v) d u ≡ set_way ws d u
set_way_again ws d v u = simp (as_lists, set-set)

pub set_house_past : (w : Plain) (c : ℕ) (g : House) → length w ≤ c → set_house w c g ≡ w
set_house_past w c g h = rw set_house_is (set_past w c g h)

pub set_house_again : (w : Plain) (c : ℕ) (g h : House) → set_house (set_house w c g) c h ≡ set_house w c h
set_house_again w c g h = simp (as_lists, set-set)

pub set_house_swap : (w : Plain) (c d : ℕ) (g h : House) → c ≢ d → set_house (set_house w c g) d h ≡ set_house (set_house w d h) c g
set_house_swap w c d g h ne = rw (set_house_is w c g, set_house_is w d h, set_house_is (set w c g) d h, set_house_is (set w d h) c g) (set_comm w c d g h ne)

pub take_length : {A : Type 0} (xs : List A) → take (length xs) xs ≡ xs
take_length xs = take_all (length xs) xs (omega arith)

-- somebody after a change of one person: that one, or as before
pub at_set_person : (ps : List Person) (a : ℕ) (q : Person) (Q : ℕ → Person → Type 0) → (a < length ps → Q a q) → ((b : ℕ) → Q b (person_at ps b)) →
    (b : ℕ) → Q b (person_at (set_person ps a q) b)
at_set_person ps a q Q k r b = go (cases_eq b a) (cases_lt a (length ps))
  where
    go : (b ≡ a) ⊎ (b ≡ a → ⊥) → (a < length ps) ⊎ (length ps ≤ a) → Q b (person_at (set_person ps a q) b)
    go (inl e) (inl l) = rw (e, person_at_same ps a q l) (k l)
    go (inl e) (inr l) = rw (set_person_past ps a q l) (r b)
    go (inr ne) l = rw (person_at_other ps a b q ne) (r b)

-- a house after a change of one house: that one, or as before
pub at_set_house : (w : Plain) (c : ℕ) (g : House) (Q : ℕ → House → Type 0) → (c < length w → Q c g) → ((x : ℕ) → Q x (house_at w x)) →
    (x : ℕ) → Q x (house_at (set_house w c g) x)
at_set_house w c g Q k r x = go (cases_eq x c) (cases_lt c (length w))
  where
    go : (x ≡ c) ⊎ (x ≡ c → ⊥) → (c < length w) ⊎ (length w ≤ c) → Q x (house_at (set_house w c g) x)
    go (inl e) (inl l) = rw (e, house_at_same w c g l) (k l)
    go (inl e) (inr l) = rw (set_house_past w c g l) (r x)
    go (inr ne) l = rw (house_at_other w c x g ne) (r x)

pub or_false : (a b : Bool) → or a b ≡ false → (a ≡ false) × (b ≡ false)
or_false true b h = absurd (false≢true (sym h))
or_false false b h = (refl, h)

-- what holds of both holds of the one that is picked
pub pick_both : {A : Type 0} (P : A → Type 0) (b : Bool) (x y : A) → P x → P y → P (pick b x y)
pick_both P true x y px py = px
pick_both P false x y px py = py

pub pick_cases : {A : Type 0} (P : A → Type 0) (b : Bool) (x y : A) → (b ≡ true → P x) → (b ≡ false → P y) → P (pick b x y)
pick_cases P true x y px py = px refl
pick_cases P false x y px py = py refl

-- What holds of each.
pub every_append : {A : Type 0} (p : A → Bool) (xs ys : List A) → every p xs ≡ true → every p ys ≡ true → every p (xs ++ ys) ≡ true
every_append p [] ys h k = k
every_append p (x ∷ xs) ys h k =
    let hs = and_parts (p x) (every p xs) h in
    and_from (p x) (every p (xs ++ ys)) hs.0 (every_append p xs ys hs.1 k)

pub every_those : {A : Type 0} (p q : A → Bool) (xs : List A) → every p xs ≡ true → every p (those q xs) ≡ true
every_those p q [] h = refl
every_those p q (x ∷ xs) h =
    let hs = and_parts (p x) (every p xs) h in
    pick_both (λ ys. every p ys ≡ true) (q x) (x ∷ those q xs) (those q xs)
    (and_from (p x) (every p (those q xs)) hs.0 (every_those p q xs hs.1)) (every_those p q xs hs.1)

-- at a place that is there
pub every_set : {A : Type 0} (p : A → Bool) (xs : List A) (i : ℕ) (y : A) → every p xs ≡ true → (i < length xs → p y ≡ true) → every p (set xs i y) ≡ true
every_set p [] i y h k = refl
every_set p (x ∷ xs) zero y h k = and_from (p y) (every p xs) (k (omega arith)) (and_parts (p x) (every p xs) h).1
every_set p (x ∷ xs) (suc i) y h k =
    let hs = and_parts (p x) (every p xs) h in
    and_from (p x) (every p (set xs i y)) hs.0 (every_set p xs i y hs.1 (λ l. k (omega arith)))

pub every_get_or : {A : Type 0} (p : A → Bool) (xs : List A) (i : ℕ) (y : A) → every p xs ≡ true → i < length xs → p (get_or xs i y) ≡ true
every_get_or p [] i y h l = absurd (omega arith)
every_get_or p (x ∷ xs) zero y h l = (and_parts (p x) (every p xs) h).0
every_get_or p (x ∷ xs) (suc i) y h l = every_get_or p xs i y (and_parts (p x) (every p xs) h).1 (omega arith)

-- and at a place that may not be there, if it holds of what stands for it
pub every_get_or_or : {A : Type 0} (p : A → Bool) (xs : List A) (i : ℕ) (y : A) → every p xs ≡ true → p y ≡ true → p (get_or xs i y) ≡ true
every_get_or_or p [] i y h k = k
every_get_or_or p (x ∷ xs) zero y h k = (and_parts (p x) (every p xs) h).0
every_get_or_or p (x ∷ xs) (suc i) y h k = every_get_or_or p xs i y (and_parts (p x) (every p xs) h).1 k

pub every_mono : {A : Type 0} (p q : A → Bool) → ((x : A) → p x ≡ true → q x ≡ true) → (xs : List A) → every p xs ≡ true → every q xs ≡ true
every_mono p q f [] h = refl
every_mono p q f (x ∷ xs) h =
    let hs = and_parts (p x) (every p xs) h in
    and_from (q x) (every q xs) (f x hs.0) (every_mono p q f xs hs.1)
