-- The same promise by the frame that knows talks by radio (Pairs): what is owed of one house and of two that talk, put together, and from it the whole.
use Rattle.std.proofs.Common.{◌≡◌, ℕ, ◌≤◌, true}
use mathlib.Core.Bool.{false≢true}
use Rattle.model.specs.House.{push}
use Rattle.model.specs.Known.{also, nothing}
use Rattle.model.specs.Promise.{Whole}
use Rattle.house.specs.Machine.{own}
use Rattle.house.proofs.Pairs.{PairProof, all_right}
use Rattle.house.proofs.Rest.{Down, Up}
use Rattle.house.proofs.Pages.{down_stopped, first_down}
use Rattle.house.proofs.Waking.{wakes}
use Rattle.house.specs.Knows.{known}
use Rattle.house.proofs.Whole.{does}
use Rattle.house.proofs.Steady.{steady}

-- pushes are not known yet
no_pushes : (d : ℕ) → known (push d) ≡ true → ⊥
unfolding also nothing
no_pushes d h = false≢true h

module _ (P n : ℕ) (low : 256 ≤ P) (high : P ≤ 1048576) (few : n ≤ 16) where
  abbrev two_houses : PairProof known own P n
  two_houses = record {
    Up = λ b c h v. Up P n h v;
    Down = λ b c h d. Down P n h d;
    powered_up = λ b c h v u. u.powered_up;
    sized = λ b c h d r. r.kept.sized;
    fewer_up = λ b c h v u. u;
    fewer_down = λ b c h d r. r;
    at_rest = λ b c h v u cs. down_stopped P n h v.device u.down cs;
    wakes = λ b c h v l r. wakes P n c low high few h v l r;
    does = λ b c s v text ls up l e u rd q. does P n low high few s c v text ls up u;
    pushes = λ b c d s w v text l rd r u x. absurd (no_pushes d r.knows);
    pushes_dark = λ b c d s w v text l rd r u x. absurd (no_pushes d r.knows);
  }

pub whole_by_pairs : Whole known own
unfolding Whole
whole_by_pairs = (
  steady,
  λ houses pages is few low high short pr.
      all_right known own pages houses few (two_houses pages houses low high few) is (λ c lt. first_down pages houses low) pr,
)
