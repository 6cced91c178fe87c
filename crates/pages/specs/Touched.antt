-- The first table page from a place on whose bit that is to count differs from the one that counts.
use Rattle.std.specs.Prelude.{◌≡◌, ℕ, zero, suc, ◌-◌, ◌<◌, ◌≤◌, List, Some, None, Option, ◌==◌}
use Rattle.model.specs.Mail.{pick}
use Rattle.pages.specs.Bits.{bit}

-- all bits of some pages agree
abbrev pub Untouched : List ℕ → List ℕ → ℕ → ℕ → Type 0
Untouched counting coming from end = (u : ℕ) → from ≤ u → u < end → bit counting u ≡ bit coming u

-- the first that is touched
pub record IsFirst (counting coming : List ℕ) (from end t : ℕ) : Type 0 where
  pub from_on : from ≤ t
  pub before_end : t < end
  pub differs : bit counting t ≡ bit coming t → ⊥
  pub none_before : Untouched counting coming from t

-- among so many pages
unfoldable pub touched_among : (counting : List ℕ) → (coming : List ℕ) → ℕ → ℕ → Option ℕ
touched_among counting coming zero t = None
touched_among counting coming (suc n) t = pick (bit counting t == bit coming t) (touched_among counting coming n (suc t)) (Some t)

unfoldable pub first_touched : (counting : List ℕ) → (coming : List ℕ) → (from : ℕ) → (end : ℕ) → Option ℕ
first_touched counting coming from end = touched_among counting coming (end - from) from
