-- Places in lists: what stands at a place after a change at that place or another, for worlds, plain houses and flags.
use Rattle.std.proofs.Common.{◌≡◌, ℕ, zero, suc, ◌<◌, Bool, true, false, ◌&&◌, List, [], ◌∷◌, length, sym, refl, ap, arith}
use mathlib.Core.Bool.{false≢true}
use Rattle.model.specs.House.{House, Plain, house_at, set_house}
use Rattle.model.specs.Run.{World, world_at, set_world, flag, set_flag, so_many, new_world}

pub world_same : (vs : List World) (c : ℕ) (v : World) → c < length vs → world_at (set_world vs c v) c ≡ v
unfolding world_at set_world
world_same [] c v h = absurd (omega arith)
world_same (u ∷ us) zero v h = refl
world_same (u ∷ us) (suc c) v h = world_same us c v (omega arith)

pub world_other : (vs : List World) (c d : ℕ) (v : World) → (c ≡ d → ⊥) → world_at (set_world vs c v) d ≡ world_at vs d
unfolding world_at set_world
world_other [] c d v h = refl
world_other (u ∷ us) zero zero v h = absurd (h refl)
world_other (u ∷ us) zero (suc d) v h = refl
world_other (u ∷ us) (suc c) zero v h = refl
world_other (u ∷ us) (suc c) (suc d) v h = world_other us c d v (λ e. h (ap suc e))

pub world_back : (vs : List World) (c : ℕ) → set_world vs c (world_at vs c) ≡ vs
unfolding world_at set_world
world_back [] c = refl
world_back (u ∷ us) zero = refl
world_back (u ∷ us) (suc c) = ap (λ x. u ∷ x) (world_back us c)

pub worlds_count : (vs : List World) (c : ℕ) (v : World) → length (set_world vs c v) ≡ length vs
unfolding set_world
worlds_count [] c v = refl
worlds_count (u ∷ us) zero v = refl
worlds_count (u ∷ us) (suc c) v = ap suc (worlds_count us c v)

-- a place written twice, and two places in either order
pub world_again : (vs : List World) (c : ℕ) (v u : World) → set_world (set_world vs c v) c u ≡ set_world vs c u
unfolding set_world
world_again [] c v u = refl
world_again (x ∷ vs) zero v u = refl
world_again (x ∷ vs) (suc c) v u = ap (λ y. x ∷ y) (world_again vs c v u)

pub world_swap : (vs : List World) (c d : ℕ) (v u : World) → (c ≡ d → ⊥) → set_world (set_world vs c v) d u ≡ set_world (set_world vs d u) c v
unfolding set_world
world_swap [] c d v u h = refl
world_swap (x ∷ vs) zero zero v u h = absurd (h refl)
world_swap (x ∷ vs) zero (suc d) v u h = refl
world_swap (x ∷ vs) (suc c) zero v u h = refl
world_swap (x ∷ vs) (suc c) (suc d) v u h = ap (λ y. x ∷ y) (world_swap vs c d v u (λ e. h (ap suc e)))

pub house_same : (hs : Plain) (c : ℕ) (h : House) → c < length hs → house_at (set_house hs c h) c ≡ h
unfolding house_at set_house
house_same [] c v h = absurd (omega arith)
house_same (u ∷ us) zero v h = refl
house_same (u ∷ us) (suc c) v h = house_same us c v (omega arith)

pub house_other : (hs : Plain) (c d : ℕ) (h : House) → (c ≡ d → ⊥) → house_at (set_house hs c h) d ≡ house_at hs d
unfolding house_at set_house
house_other [] c d v h = refl
house_other (u ∷ us) zero zero v h = absurd (h refl)
house_other (u ∷ us) zero (suc d) v h = refl
house_other (u ∷ us) (suc c) zero v h = refl
house_other (u ∷ us) (suc c) (suc d) v h = house_other us c d v (λ e. h (ap suc e))

pub houses_count : (hs : Plain) (c : ℕ) (h : House) → length (set_house hs c h) ≡ length hs
unfolding set_house
houses_count [] c v = refl
houses_count (u ∷ us) zero v = refl
houses_count (u ∷ us) (suc c) v = ap suc (houses_count us c v)

pub flag_same : (us : List Bool) (c : ℕ) (v : Bool) → c < length us → flag (set_flag us c v) c ≡ v
unfolding flag set_flag
flag_same [] c v h = absurd (omega arith)
flag_same (u ∷ us) zero v h = refl
flag_same (u ∷ us) (suc c) v h = flag_same us c v (omega arith)

pub flag_other : (us : List Bool) (c d : ℕ) (v : Bool) → (c ≡ d → ⊥) → flag (set_flag us c v) d ≡ flag us d
unfolding flag set_flag
flag_other [] c d v h = refl
flag_other (u ∷ us) zero zero v h = absurd (h refl)
flag_other (u ∷ us) zero (suc d) v h = refl
flag_other (u ∷ us) (suc c) zero v h = refl
flag_other (u ∷ us) (suc c) (suc d) v h = flag_other us c d v (λ e. h (ap suc e))

pub flags_count : (us : List Bool) (c : ℕ) (v : Bool) → length (set_flag us c v) ≡ length us
unfolding set_flag
flags_count [] c v = refl
flags_count (u ∷ us) zero v = refl
flags_count (u ∷ us) (suc c) v = ap suc (flags_count us c v)

pub flag_below : (us : List Bool) (c : ℕ) → flag us c ≡ true → c < length us
unfolding flag
flag_below [] c h = absurd (false≢true h)
flag_below (u ∷ us) zero h = omega arith
flag_below (u ∷ us) (suc c) h = let r = flag_below us c h in omega arith

pub and_left : (a b : Bool) → a && b ≡ true → a ≡ true
and_left true b h = refl
and_left false b h = absurd (false≢true h)

pub and_right : (a b : Bool) → a && b ≡ true → b ≡ true
and_right true b h = h
and_right false b h = absurd (false≢true h)

pub house_back : (hs : Plain) (c : ℕ) → set_house hs c (house_at hs c) ≡ hs
unfolding house_at set_house
house_back [] c = refl
house_back (u ∷ us) zero = refl
house_back (u ∷ us) (suc c) = ap (λ x. u ∷ x) (house_back us c)

-- a flag that is set to what it is
pub flag_back : (us : List Bool) (c : ℕ) (u : Bool) → flag us c ≡ u → set_flag us c u ≡ us
unfolding flag set_flag
flag_back [] c u h = refl
flag_back (x ∷ us) zero u h = ap (λ y. y ∷ us) (sym h)
flag_back (x ∷ us) (suc c) u h = ap (λ y. x ∷ y) (flag_back us c u h)

pub start_world : (pages n k : ℕ) → k < n → world_at (so_many n (new_world pages)) k ≡ new_world pages
unfolding world_at so_many
start_world pages zero k lt = absurd (omega arith)
start_world pages (suc n) zero lt = refl
start_world pages (suc n) (suc k) lt = start_world pages n k (omega arith)

pub start_house : (n k : ℕ) (h : House) → k < n → house_at (so_many n h) k ≡ h
unfolding house_at so_many
start_house zero k h lt = absurd (omega arith)
start_house (suc n) zero h lt = refl
start_house (suc n) (suc k) h lt = start_house n k h (omega arith)

pub start_flag : (n k : ℕ) → flag (so_many n false) k ≡ false
unfolding flag so_many
start_flag zero k = refl
start_flag (suc n) zero = refl
start_flag (suc n) (suc k) = start_flag n k

pub count_many : {A : Type 0} (n : ℕ) (x : A) → length (so_many n x) ≡ n
unfolding so_many
count_many zero x = refl
count_many (suc n) x = ap suc (count_many n x)
