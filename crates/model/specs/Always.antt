-- What holds of the plain houses at all times, from the first houses on, whatever is said to them and however pushes break off.
use Rattle.std.specs.Prelude.{◌≡◌, ℕ, ◌<◌, ◌≤◌, Bool, true, List, [], ◌∷◌, length, drop, nat_lt}
use Rattle.model.specs.Mail.{every, Letter, in_box}
use Rattle.model.specs.House.{Command, House, Plain, Box, turn, house_at, set_house, way_at, not_taken, pushed, can_know, has_box, here_box, the_box, letter_of, target}
use Rattle.model.specs.Run.{so_many}
use Rattle.model.specs.Promise.{Never, first_house, KnownTaken, good_house, May, Mid}

-- what n plain houses may become next: a house has its turn, or letters come from one to another, of which some are known there to have come
pub data Becomes (n : ℕ) (w : Plain) : Plain → Type 0 where
  turned : (c : ℕ) (a : Command) → c < n → Becomes n w (set_house w c (turn n c (house_at w c) a).next)
  came : (c d more know : ℕ) → c < n → d < n → (c ≡ d → Never) → can_know w c d more know ≡ true → Becomes n w (pushed w c d more know)

-- plain houses that can come about
pub data Reached (n : ℕ) : Plain → Type 0 where
  begun : Reached n (so_many n (first_house n))
  became : {w v : Plain} → Reached n w → Becomes n w v → Reached n v

-- a house that can take any letter: there is a postmaster, everybody has a box "in", and rules pass on to houses that are there
abbrev pub within : ℕ → List ℕ → Bool
within n [] = true
within n (d ∷ as₁) = nat_lt d n

pub record Ready (n : ℕ) (h : House) : Type 0 where
  pub staffed : 0 < length h.people
  pub at_home : every (λ p. has_box p.boxes in_box) h.people ≡ true
  pub on_to_houses : every (λ p. every (λ r. every (λ t. within n (target t)) r.acts) p.rules) h.people ≡ true

-- n houses, each with a way to each and a count of what it took from each; no letter waits for its own house; what is known to have been taken was
pub record Sound (n : ℕ) (w : Plain) : Type 0 where
  pub houses : length w ≡ n
  pub ways : (c : ℕ) → c < n → length (house_at w c).ways ≡ n
  pub taken : (c : ℕ) → c < n → length (house_at w c).taken ≡ n
  pub own : (c : ℕ) → c < n → way_at (house_at w c).ways c ≡ record { sent = 0; waiting = [] }
  pub known : (c d : ℕ) → c < n → d < n → KnownTaken w c d
  pub good : (c : ℕ) → c < n → good_house (house_at w c) ≡ true
  pub ready : (c : ℕ) → c < n → Ready n (house_at w c)

-- What can come about is sound.
unfoldable pub AlwaysSound : Type 0
AlwaysSound = (n : ℕ) (w : Plain) → Reached n w → Sound n w

-- What a command or a stop in its middle may leave can come about.
unfoldable pub StaysReached : Type 0
StaysReached =
    (known : Command → Bool) (n pages : ℕ) (w : Plain) (c : ℕ) (text : List ℕ) (ss : List (List ℕ)) (v : Plain) → c < n → Reached n w →
    ((ls : ℕ) (up : Bool) (reply : ℕ) → May known pages w c text ls up ss reply v → Reached n v) × (Mid known w c text ss v → Reached n v)

-- a box later on: its next number has not fallen, and whatever is found under a number given out before was found under it then, with the same bytes
pub record Later (b c : Box) : Type 0 where
  pub next : b.next ≤ c.next
  pub found : (i : ℕ) (l : Letter) → i < b.next → letter_of c.letters i ≡ l ∷ [] → (k : Letter) × (letter_of b.letters i ≡ k ∷ []) × (k.bytes ≡ l.bytes)

-- No number of a box is used again while the box is there.
unfoldable pub NeverAgain : Type 0
NeverAgain =
    (n : ℕ) (w v : Plain) → Reached n w → Becomes n w v → (c a : ℕ) (nm : List ℕ) → c < n →
    here_box (house_at w c) a nm ≡ true → here_box (house_at v c) a nm ≡ true → Later (the_box (house_at w c) a nm) (the_box (house_at v c) a nm)

-- However a push breaks off, what comes goes from the beginning of what is still to come; and with a push of the rest all is as after one push.
unfoldable pub PushesInParts : Type 0
PushesInParts =
    (n : ℕ) (w : Plain) (c d more know : ℕ) → Reached n w → c < n → d < n → (c ≡ d → Never) → can_know w c d more know ≡ true →
    let v : Plain = pushed w c d more know in
    (not_taken v c d ≡ drop more (not_taken w c d))
    × (pushed v c d (length (not_taken v c d)) (length (way_at (house_at v c).ways d).waiting)
    ≡ pushed w c d (length (not_taken w c d)) (length (way_at (house_at w c).ways d).waiting))
