-- No letter gets lost when it is delivered: it is in a box here, it waits for another house, or a rule here said "away".
use Rattle.std.specs.Prelude.{◌≡◌, ℕ, ◌<◌, true, ◌⊎◌, List, [], ◌∷◌, ◌++◌, length}
use Rattle.model.specs.Mail.{any, Letter}
use Rattle.model.specs.House.{House, Out, here_box, the_box, person_at, way_at, deliver}
use Rattle.model.specs.Promise.{Never, says_away}
use Rattle.model.specs.Always.{Ready}

-- a letter with these bytes came last into a box of house g that was house h
pub record InABox (bs : List ℕ) (h g : House) : Type 0 where
  pub person : ℕ
  pub box : List ℕ
  pub here : here_box g person box ≡ true
  pub number : (the_box h person box).next < (the_box g person box).next
  pub others : List Letter
  pub letter : Letter
  pub last : (the_box g person box).letters ≡ others ++ letter ∷ []
  pub bytes : letter.bytes ≡ bs

-- it came last among those that wait for another of the n houses, to be passed on fewer than m times
pub record OnItsWay (n c m : ℕ) (bs : List ℕ) (h g : House) : Type 0 where
  pub to : ℕ
  pub there : to < n
  pub other : to ≡ c → Never
  pub letter : Out
  pub last : (way_at g.ways to).waiting ≡ (way_at h.ways to).waiting ++ letter ∷ []
  pub bytes : letter.bytes ≡ bs
  pub fewer : letter.left < m

-- somebody here has a rule that says so
pub record SaidAway (h : House) : Type 0 where
  pub person : ℕ
  pub rule : any (λ r. any says_away r.acts) (person_at h.people person).rules ≡ true

-- a letter delivered at house c, one of n, to be passed on m times at most
unfoldable pub Delivered : Type 0
Delivered =
    (n c m : ℕ) (bs : List ℕ) (h : House) (a : ℕ) → c < n → length h.ways ≡ n → Ready n h →
    let g : House = deliver m c bs h a in
    InABox bs h g ⊎ (OnItsWay n c m bs h g ⊎ SaidAway h)
