-- What one step does with a memory of which the regions are known: the test that it makes sense passes, and the phase decides.
use Rattle.std.proofs.Common.{◌≡◌, ℕ, ◌+◌, ◌*◌, ◌<◌, ◌≤◌, true, List, [], ◌∷◌, length, get_or, refl, subst, arith}
use Rattle.model.specs.House.{House}
use Rattle.model.specs.Device.{a_page}
use Rattle.model.specs.Run.{said, page, next, World}
use Rattle.pages.specs.Geometry.{directory_pages}
use Rattle.house.specs.declared.phase.Phase.{Phase}
use Rattle.house.specs.declared.phase.Phase.TheVariants.{Idle}
use Rattle.house.specs.Memory.{pages_count, phase_of, sensible}
use Rattle.house.specs.Machine.{own, page_told, next_told, said_told}
use Rattle.house.proofs.Regions.{Mem, length_dir, phase_is, reg_is, is_sensible}
use Rattle.house.proofs.Rest.{Stands, Up}

-- counts that a step can work with
pub record Fit (P n : ℕ) (header : List ℕ) : Type 0 where
  pub pages_enough : 256 ≤ P
  pub houses_few : n ≤ 16
  pub area_small : get_or header 1 0 < 2
  pub people_few : get_or header 2 0 ≤ 64
  pub boxes_fit : 864 + 12 * get_or header 3 0 ≤ 64 * directory_pages P

-- what stands for a house fits
pub stands_fit : (P n : ℕ) (header dir : List ℕ) (h : House) → 256 ≤ P → n ≤ 16 → length dir ≡ 64 * directory_pages P → Stands P n header dir h → Fit P n header
stands_fit P n header dir h enough few l s = record {
  pages_enough = enough;
  houses_few = few;
  area_small = s.area_small;
  people_few = s.sound.people_few;
  boxes_fit = subst (λ x. 864 + 12 * get_or header 3 0 ≤ x) l s.sound.boxes_fit;
}

pub up_fit : (P n : ℕ) (h : House) (v : World) → 256 ≤ P → n ≤ 16 → (u : Up P n h v) → Fit P n u.header
up_fit P n h v enough few u =
    stands_fit P n u.header u.dir h enough few
    (length_dir P Idle (u.house_number ∷ n ∷ P ∷ u.shown ∷ []) u.header u.counting u.coming u.dir v.memory u.memory_is) u.stands

module _ (P n c x : ℕ) (phase : Phase) (header counting coming dir m : List ℕ) (M : Mem P phase (c ∷ n ∷ P ∷ x ∷ []) header counting coming dir m) where
  pub pages_is : pages_count m ≡ P
  pages_is = reg_is P phase (c ∷ n ∷ P ∷ x ∷ []) header counting coming dir m M 2 (omega arith)

  pub houses_is : get_or m 4 0 ≡ n
  houses_is = reg_is P phase (c ∷ n ∷ P ∷ x ∷ []) header counting coming dir m M 1 (omega arith)

  pub shown_is : get_or m 6 0 ≡ x
  shown_is = reg_is P phase (c ∷ n ∷ P ∷ x ∷ []) header counting coming dir m M 3 (omega arith)

  module _ (F : Fit P n header) where
    makes_sense : sensible m ≡ true
    makes_sense = is_sensible P phase (c ∷ n ∷ P ∷ x ∷ []) header counting coming dir m M refl F.pages_enough F.houses_few F.area_small F.people_few F.boxes_fit

    in_its_phase : phase_of m ≡ phase
    in_its_phase = phase_is P phase (c ∷ n ∷ P ∷ x ∷ []) header counting coming dir m M

    pub step_next : own.step m next ≡ next_told P phase m
    unfolding own
    step_next = rw (makes_sense, pages_is, in_its_phase)

    pub step_page : (p : List ℕ) → a_page p ≡ true → own.step m (page p) ≡ page_told P phase p m
    unfolding own
    step_page p ok = rw (makes_sense, ok, pages_is, in_its_phase)

    pub step_said : (text : List ℕ) → own.step m (said text) ≡ said_told P phase text m
    unfolding own
    step_said text = rw (makes_sense, pages_is, in_its_phase)
