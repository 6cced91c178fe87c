-- The promise over join, boxes and new box: what is owed of one house, put together, and from it the whole.
use Rattle.std.proofs.Common.{ℕ, ◌≤◌, Bool, List}
use Rattle.model.specs.House.{Plain, house_at}
use Rattle.model.specs.Run.{World}
use Rattle.model.specs.Promise.{Whole}
use Rattle.house.specs.Machine.{own}
use Rattle.house.proofs.Houses.{HouseProof, all_right}
use Rattle.house.proofs.Rest.{Down, Up}
use Rattle.house.proofs.Pages.{down_stopped, first_down}
use Rattle.house.proofs.Waking.{wakes}
use Rattle.house.specs.Knows.{known}
use Rattle.house.proofs.Does.{Does}
use Rattle.house.proofs.Obeyed.{does_any}
use Rattle.house.proofs.Keeps.{keeps_person, keeps_box}
use Rattle.house.proofs.Steady.{steady}

module _ (P n : ℕ) (low : 256 ≤ P) (high : P ≤ 1048576) (few : n ≤ 16) where
  pub does : (s : Plain) (c : ℕ) (v : World) (text : List ℕ) (ls : ℕ) (up : Bool) → Up P n (house_at s c) v → Does P n s c text ls up v
  does s c v text ls up u =
      does_any P n s c text ls up v low few u
      (λ nm said can. keeps_person P n low high few s c text ls up v u nm said can)
      (λ a nm said can. keeps_box P n low high few s c text ls up v u a nm said can)

  abbrev one_house : HouseProof known own P n
  one_house = record {
    Up = λ b c h v. Up P n h v;
    Down = λ b c h d. Down P n h d;
    powered_up = λ b c h v u. u.powered_up;
    sized = λ b c h d r. r.kept.sized;
    fewer_up = λ b c h v u. u;
    fewer_down = λ b c h d r. r;
    at_rest = λ b c h v u cs. down_stopped P n h v.device u.down cs;
    wakes = λ b c h v l r. wakes P n c low high few h v l r;
    does = λ b c s v text ls up l e u. does s c v text ls up u;
  }

pub whole : Whole known own
unfolding Whole
whole = (
  steady,
  λ houses pages is few low high short pr.
      all_right known own pages houses few (one_house pages houses low high few) is (λ c lt. first_down pages houses low) pr,
)
