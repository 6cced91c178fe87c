-- What the houses promise. Each is a statement, a type whose proof is owed by a function whose contract names it. Assumes nothing.
use Rattle.std.specs.Prelude.{◌≡◌, ℕ, zero, suc, ◌+◌, ◌-◌, ◌*◌, ◌/◌, ◌<◌, ◌≤◌, Bool, true, false, ◌&&◌, ltb, ◌⊎◌, List, [], ◌∷◌, ◌++◌, length, take, drop, ◌==◌, nat_lt, slice_index}
use Rattle.model.specs.Mail.{pick, every, any, added_up, none_of, Letter, Rule, Action, away, file, keep, on_to, mark, halt, fate}
use Rattle.model.specs.House.{Command, push, set_mark, spelled, fits, House, Plain, Box, Turn, turn, house_at, set_house, way_at, person_at, pushed, can_know, not_taken, somebody, weight, at_first, come}
use Rattle.model.specs.Device.{Device, Write, page_at, read_page, flushed, stopped}
use Rattle.model.specs.Run.{Engine, Item, proper, Right, new_world, Steady, so_many}

abbrev pub Never : Type 0
Never = zero ≡ suc zero

unfoldable pub Said : List ℕ → Command → Type 0
Said text c = (spelled c ≡ text) × (fits c ≡ true)

-- the other house of a command: the one pushed to; none for others, or if it is the same
unfoldable pub from_bytes : ℕ → List ℕ → ℕ
from_bytes n [] = n
from_bytes n (b ∷ bs) = from_bytes (256 * n + b) bs

unfoldable pub peer : ℕ → List ℕ → ℕ
peer c [] = 1000
peer c (b ∷ bs) = pick (b == 13) (pick (from_bytes 0 bs == c) 1000 (from_bytes 0 bs)) 1000

-- how many letters of the line pushing may need, up to and with the first that didn't come when so many more have
abbrev pub needs : Plain → ℕ → ℕ → ℕ → ℕ
needs w c d more = 16 + added_up (λ o. 4 + length o.bytes / 1024) (take (suc (more + (slice_index (house_at w d).taken c - (way_at (house_at w c).ways d).sent))) (way_at (house_at w c).ways d).waiting)

-- pushing: all of it; or some, if the line fell short, or the next letter finds no room there
unfoldable pub PushMay : ℕ → Plain → ℕ → ℕ → ℕ → Bool → List (List ℕ) → ℕ → Plain → Type 0
PushMay pages w c d ls up ss reply w₁ =
    (ss ≡ [])
    × (((reply ≡ 0) × (w₁ ≡ pushed w c d (length (not_taken w c d)) (length (way_at (house_at w c).ways d).waiting)))
    ⊎ ((more : ℕ) × (know : ℕ) × (can_know w c d more know ≡ true) × (w₁ ≡ pushed w c d more know)
    × (((reply ≡ 9) × ((up ≡ false) ⊎ (ls < needs w c d more)))
    ⊎ ((reply ≡ 8) × (more < length (not_taken w c d))
    × (weight (come c d (take more (not_taken w c d)) (house_at w d)) < weight (come c d (take (suc more) (not_taken w c d)) (house_at w d)))
    × (128 * pages < weight (come c d (take (suc more) (not_taken w c d)) (house_at w d)))))))

-- a command that is known: the plain house's turn; or no room, only if more is to be kept than a quarter of the pages hold
unfoldable pub TurnMay : ℕ → Plain → ℕ → Turn → List (List ℕ) → ℕ → Plain → Type 0
TurnMay pages w c t ss reply w₁ =
    ((reply ≡ t.reply) × (ss ≡ t.shows) × (w₁ ≡ set_house w c t.next))
    ⊎ ((reply ≡ 8) × (ss ≡ []) × (w₁ ≡ w) × (t.reply ≡ 0) × (weight (house_at w c) < weight t.next) × (128 * pages < weight t.next))

unfoldable pub IsPush : Command → ℕ → Type 0
IsPush a d = a ≡ push d

unfoldable pub NoPush : Command → Type 0
NoPush a = (d : ℕ) → a ≡ push d → Never

unfoldable pub May : (Command → Bool) → ℕ → Plain → ℕ → List ℕ → ℕ → Bool → List (List ℕ) → ℕ → Plain → Type 0
May known pages w c text ls up ss reply w₁ =
    ((a : Command) × Said text a × (known a ≡ true)
    × ((NoPush a × TurnMay pages w c (turn (length w) c (house_at w c) a) ss reply w₁)
    ⊎ ((d : ℕ) × IsPush a d
    × ((((turn (length w) c (house_at w c) a).reply ≡ 5) × (reply ≡ 5) × (ss ≡ []) × (w₁ ≡ w))
    ⊎ (((turn (length w) c (house_at w c) a).reply ≡ 0) × PushMay pages w c d ls up ss reply w₁)))))
    ⊎ (((a : Command) × Said text a × (known a ≡ false) × (reply ≡ 2) × (ss ≡ []) × (w₁ ≡ w))
    ⊎ (((a : Command) → Said text a → Never) × (reply ≡ 1) × (ss ≡ []) × (w₁ ≡ w)))

-- what a stop in the middle may leave: as before or as after; of a push, so much of it
unfoldable pub Mid : (Command → Bool) → Plain → ℕ → List ℕ → List (List ℕ) → Plain → Type 0
Mid known w c text ss w₁ =
    ((w₁ ≡ w) × ((ss ≡ []) ⊎ ((a : Command) × Said text a × (more : List (List ℕ)) × ((turn (length w) c (house_at w c) a).shows ≡ ss ++ more))))
    ⊎ (((a : Command) × Said text a × (known a ≡ true) × NoPush a × (more : List (List ℕ))
    × ((turn (length w) c (house_at w c) a).shows ≡ ss ++ more) × (w₁ ≡ set_house w c (turn (length w) c (house_at w c) a).next))
    ⊎ ((d : ℕ) × Said text (push d) × (known (push d) ≡ true) × ((turn (length w) c (house_at w c) (push d)).reply ≡ 0) × (ss ≡ [])
    × (more : ℕ) × (know : ℕ) × (can_know w c d more know ≡ true) × (w₁ ≡ pushed w c d more know)))

-- a house at first: person 0, who takes what has no other
abbrev pub master : List ℕ
master = 112 ∷ 111 ∷ 115 ∷ 116 ∷ []

abbrev pub first_house : ℕ → House
first_house n = record { people = record { name = master; boxes = at_first; rules = [] } ∷ []; ways = so_many n (record { sent = 0; waiting = [] }); taken = so_many n 0 }

-- the main promise: for up to 16 houses, all devices and all that can happen, beside the plain houses
unfoldable pub Whole : (Command → Bool) → Engine → Type 0
Whole known e =
    Steady e
    × ((houses pages : ℕ) (is : List Item) → houses ≤ 16 → 256 ≤ pages → pages ≤ 1048576 → length is ≤ 4294967296 → proper peer (so_many houses false) is ≡ true →
    Right peer (May known pages) (Mid known) e (so_many houses (new_world pages)) (so_many houses (first_house houses)) is)

-- No two commands are spelled alike.
unfoldable pub SpelledOnce : Type 0
SpelledOnce = (a c : Command) → fits a ≡ true → fits c ≡ true → spelled a ≡ spelled c → a ≡ c

-- No letter gets lost by rules: it comes into some box, is passed on, or a rule said "away".
unfoldable pub says_away : Action → Bool
says_away keep = false
says_away (file n) = false
says_away away = true
says_away (on_to d a) = false
says_away (mark m) = false
says_away halt = false

unfoldable pub NotLost : Type 0
NotLost =
    (rs : List Rule) (bs : List ℕ) → none_of (fate rs bs).boxes ≡ true → none_of (fate rs bs).people ≡ true →
    any (λ r. any says_away r.acts) rs ≡ true

-- Numbers in a box rise, and none is used again.
unfoldable pub below : ℕ → List Letter → Bool
below k ls = every (λ l. ltb l.number k) ls

unfoldable pub rising : List Letter → Bool
rising [] = true
rising (l ∷ []) = true
rising (l ∷ m ∷ ls) = nat_lt l.number m.number && rising (m ∷ ls)

unfoldable pub good_box : Box → Bool
good_box b = rising b.letters && below b.next b.letters

unfoldable pub good_house : House → Bool
good_house h = every (λ p. every good_box p.boxes) h.people

unfoldable pub NumbersRise : Type 0
NumbersRise =
    (n c : ℕ) (h : House) (a : Command) → good_house h ≡ true →
    (good_house (turn n c h a).next ≡ true)

-- what is known to have been taken was, and what was taken had been handed in
unfoldable pub KnownTaken : Plain → ℕ → ℕ → Type 0
KnownTaken w c d =
    ((way_at (house_at w c).ways d).sent ≤ slice_index (house_at w d).taken c)
    × (slice_index (house_at w d).taken c ≤ (way_at (house_at w c).ways d).sent + length (way_at (house_at w c).ways d).waiting)

-- Taken at most once, and in order: whatever was pushed, in whatever parts, what has been taken and what is still to come make up what was handed in.
unfoldable pub TakenOnce : Type 0
TakenOnce =
    (w : Plain) (c d more know : ℕ) → (c ≡ d → Never) → c < length w → d < length w → can_know w c d more know ≡ true →
    d < length (house_at w c).ways → c < length (house_at w d).taken → KnownTaken w c d →
    not_taken (pushed w c d more know) c d ≡ drop more (not_taken w c d)

-- Pushing in parts comes to pushing at once.
unfoldable pub PartsAlike : Type 0
PartsAlike =
    (w : Plain) (c d more : ℕ) → (c ≡ d → Never) → c < length w → d < length w → d < length (house_at w c).ways → c < length (house_at w d).taken → KnownTaken w c d →
    more ≤ length (not_taken w c d) →
    let v : Plain = pushed w c d more 0 in
    pushed v c d (length (not_taken v c d)) (length (way_at (house_at v c).ways d).waiting)
    ≡ pushed w c d (length (not_taken w c d)) (length (way_at (house_at w c).ways d).waiting)

-- Nobody else's boxes change by a command of one person that passes nothing on.
unfoldable pub OthersStay : Type 0
OthersStay =
    (n c : ℕ) (h : House) (a b : ℕ) (nm : List ℕ) (i m : ℕ) (v : Bool) → (a ≡ b → Never) →
    person_at (turn n c h (set_mark a nm i m v)).next.people b ≡ person_at h.people b

-- A letter that may be passed on n times is passed on n times at most.
unfoldable pub passed : ℕ → (ℕ → ℕ) → List (List ℕ) → ℕ
passed c go [] = 0
passed c go (p ∷ ps) = pick (slice_index p 0 == c) (suc (go (slice_index p 1))) 1

unfoldable pub passes : ℕ → ℕ → List ℕ → House → ℕ → ℕ
passes zero c bs h a = 0
passes (suc n) c bs h a = passed c (λ b. passes n c bs h b) (fate (person_at h.people (somebody h a)).rules bs).people

unfoldable pub Ends : Type 0
Ends = (n c : ℕ) (bs : List ℕ) (h : House) (a : ℕ) → passes n c bs h a ≤ n

-- What was flushed stays, whatever a stop leaves of later writes to other pages.
unfoldable pub elsewhere : ℕ → List Write → Bool
elsewhere k [] = true
elsewhere k (q ∷ qs) = pick (q.at == k) false (elsewhere k qs)

unfoldable pub FlushedStays : Type 0
FlushedStays =
    (d : Device) (qs : List Write) (cs : List ℕ) (k : ℕ) → elsewhere k qs ≡ true →
    page_at (stopped (record { pages = (flushed d).pages; queue = qs }) cs).pages k ≡ read_page d k
