-- What keeps a memory's length and its numbers below 2^64: patches at places that lie in it, phases with small operands, and records that are touched.
use Rattle.std.proofs.Common.{◌≡◌, ℕ, ◌+◌, ◌*◌, ◌/◌, ◌^◌, ◌<◌, ◌≤◌, Bool, true, false, cond, ◌&&◌, eqb, ltb, leb, List, [], ◌∷◌, length, get_or, refl, ◌∙◌, arith}
use Rattle.std.proofs.lemmas.Bool.{and_parts, eqb-true, leb-true}
use Rattle.model.specs.Run.{all_small, Step}
use Rattle.pages.specs.Words.{patched}
use Rattle.pages.specs.Bits.{touched}
use Rattle.pages.specs.Geometry.{selector_pages, directory_pages}
use Rattle.pages.proofs.Words.{length_patched, all_small_patched, length_part, all_small_part, all_small_cons, all_small_nil, all_small_get_or}
use Rattle.pages.proofs.Bits.{length_touched, all_small_touched}
use Rattle.pages.proofs.Geometry.{selector_pages_most, directory_pages_most}
use Rattle.house.specs.declared.phase.Phase.{Phase}
use Rattle.house.specs.declared.phase.Phase.TheVariants.{Off, ReadHeader, ReadSelectors, ReadDirectory, Idle, ShowBoxes, WriteTable, WriteSelectors, WriteHeader, FlushHeader, Committed, Shown}
use Rattle.house.specs.Memory.{memory_len, houses_count, pages_count, area_of, people_of, boxes_count, counting_of, coming_of, directory_of, phase_in, phase_of, phase_words, in_phase, sensible}
use Rattle.house.specs.Machine.{touch_record}

pub record Kept (m m' : List ℕ) : Type 0 where
  pub long : length m' ≡ length m
  pub small : all_small m ≡ true → all_small m' ≡ true

-- what a step leaves
abbrev pub Keeps : List ℕ → Step → Type 0
Keeps m s = Kept m s.memory

pub unchanged : (m : List ℕ) → Kept m m
unchanged m = record { long = refl; small = λ h. h }

-- a patch of a memory that was kept so far
pub then_patched : (m m₁ : List ℕ) (at : ℕ) (ws : List ℕ) → Kept m m₁ → at + length ws ≤ length m → (all_small m ≡ true → all_small ws ≡ true) →
    Kept m (patched m₁ at ws)
then_patched m m₁ at ws k l s = record {
  long = length_patched m₁ at ws (omega (arith, k.long)) ∙ k.long;
  small = λ h. all_small_patched m₁ at ws (k.small h) (s h);
}

-- a few words
pub one_small : (x : ℕ) → x < 2 ^ 64 → all_small (x ∷ []) ≡ true
one_small x h = all_small_cons x [] h all_small_nil

pub two_small : (x y : ℕ) → x < 2 ^ 64 → y < 2 ^ 64 → all_small (x ∷ y ∷ []) ≡ true
two_small x y h k = all_small_cons x (y ∷ []) h (one_small y k)

pub three_small : (x y z : ℕ) → x < 2 ^ 64 → y < 2 ^ 64 → z < 2 ^ 64 → all_small (x ∷ y ∷ z ∷ []) ≡ true
three_small x y z h k l = all_small_cons x (y ∷ z ∷ []) h (two_small y z k l)

-- phases

abbrev pub SmallPhase : Phase → Type 0
SmallPhase ph = all_small (phase_words ph) ≡ true

three_words : (ph : Phase) → length (phase_words ph) ≡ 3
three_words Off = refl
three_words ReadHeader = refl
three_words (ReadSelectors q) = refl
three_words (ReadDirectory t) = refl
three_words Idle = refl
three_words (ShowBoxes a i) = refl
three_words (WriteTable t) = refl
three_words (WriteSelectors q) = refl
three_words WriteHeader = refl
three_words FlushHeader = refl
three_words Committed = refl
three_words Shown = refl

pub then_phase : (m m₁ : List ℕ) (ph : Phase) → Kept m m₁ → 3 ≤ length m → (all_small m ≡ true → SmallPhase ph) → Kept m (in_phase ph m₁)
then_phase m m₁ ph k l s = then_patched m m₁ 0 (phase_words ph) k (omega (arith, three_words ph)) s

-- one phase more to choose from
or_phase : (b : Bool) (ph others : Phase) → SmallPhase ph → SmallPhase others → SmallPhase (cond b ph others)
or_phase true ph others h k = h
or_phase false ph others h k = k

-- the phase that a memory is in has operands out of it
phase_in_small : (tag x y : ℕ) → x < 2 ^ 64 → y < 2 ^ 64 → SmallPhase (phase_in tag x y)
phase_in_small tag x y lx ly =
    or_phase (eqb tag 1) ReadHeader _ (three_small 1 0 0 (omega arith) (omega arith) (omega arith)) (
    or_phase (eqb tag 2) (ReadSelectors x) _ (three_small 2 x 0 (omega arith) (omega arith) (omega arith)) (
    or_phase (eqb tag 3) (ReadDirectory x) _ (three_small 3 x 0 (omega arith) (omega arith) (omega arith)) (
    or_phase (eqb tag 4) Idle _ (three_small 4 0 0 (omega arith) (omega arith) (omega arith)) (
    or_phase (eqb tag 5) (ShowBoxes x y) _ (three_small 5 x y (omega arith) (omega arith) (omega arith)) (
    or_phase (eqb tag 6) (WriteTable x) _ (three_small 6 x 0 (omega arith) (omega arith) (omega arith)) (
    or_phase (eqb tag 7) (WriteSelectors x) _ (three_small 7 x 0 (omega arith) (omega arith) (omega arith)) (
    or_phase (eqb tag 8) WriteHeader _ (three_small 8 0 0 (omega arith) (omega arith) (omega arith)) (
    or_phase (eqb tag 9) FlushHeader _ (three_small 9 0 0 (omega arith) (omega arith) (omega arith)) (
    or_phase (eqb tag 10) Committed _ (three_small 10 0 0 (omega arith) (omega arith) (omega arith)) (
    or_phase (eqb tag 11) Shown _ (three_small 11 0 0 (omega arith) (omega arith) (omega arith)) (
    three_small 0 0 0 (omega arith) (omega arith) (omega arith))))))))))))

pub phase_of_small : (m : List ℕ) → all_small m ≡ true → SmallPhase (phase_of m)
phase_of_small m h = phase_in_small (get_or m 0 0) (get_or m 1 0) (get_or m 2 0) (all_small_get_or m 1 h) (all_small_get_or m 2 h)

-- regions of a memory

pub length_coming : (P : ℕ) (m : List ℕ) → length m ≡ memory_len → P ≤ 1048576 → length (coming_of P m) ≡ 64 * selector_pages P
length_coming P m l h = length_part m 1184 (64 * selector_pages P) (omega (arith, selector_pages_most P h))

pub length_directory : (P : ℕ) (m : List ℕ) → length m ≡ memory_len → length (directory_of P m) ≡ 64 * directory_pages P
length_directory P m l = length_part m 2272 (64 * directory_pages P) (omega (arith, directory_pages_most P))

pub then_touched : (m m₁ : List ℕ) (P at : ℕ) → Kept m m₁ → length m ≡ memory_len → P ≤ 1048576 → Kept m (touch_record P at m₁)
unfolding touch_record
then_touched m m₁ P at k l h =
    let here : length m₁ ≡ memory_len = k.long ∙ l in
    let once : List ℕ = touched (counting_of P m₁) (coming_of P m₁) (at / 64) in
    let e : length (touched (counting_of P m₁) once ((at + 11) / 64)) ≡ 64 * selector_pages P =
    length_touched (counting_of P m₁) once ((at + 11) / 64) ∙ length_touched (counting_of P m₁) (coming_of P m₁) (at / 64) ∙ length_coming P m₁ here h in
    then_patched m m₁ 1184 (touched (counting_of P m₁) once ((at + 11) / 64)) k (omega (arith, e, selector_pages_most P h)) (λ s.
    all_small_touched (counting_of P m₁) once ((at + 11) / 64)
    (all_small_touched (counting_of P m₁) (coming_of P m₁) (at / 64) (all_small_part m₁ 1184 (64 * selector_pages P) (k.small s))))

-- what is known of a memory that makes sense
pub record Sense (m : List ℕ) : Type 0 where
  pub length_is : length m ≡ memory_len
  pub pages_most : pages_count m ≤ 1048576
  pub houses_few : houses_count m ≤ 16
  pub people_few : people_of m ≤ 64
  pub boxes_few : 864 + 12 * boxes_count m ≤ 64 * directory_pages (pages_count m)

pub sense : (m : List ℕ) → sensible m ≡ true → Sense m
unfolding sensible
sense m h =
    let both = and_parts (eqb (length m) memory_len && (leb 256 (pages_count m) && leb (pages_count m) 1048576))
    ((leb (houses_count m) 16 && ltb (area_of m) 2) && (leb (people_of m) 64 && leb (864 + 12 * boxes_count m) (64 * directory_pages (pages_count m)))) h in
    let sized = and_parts (eqb (length m) memory_len) (leb 256 (pages_count m) && leb (pages_count m) 1048576) both.0 in
    let pages = and_parts (leb 256 (pages_count m)) (leb (pages_count m) 1048576) sized.1 in
    let counts = and_parts (leb (houses_count m) 16 && ltb (area_of m) 2) (leb (people_of m) 64 && leb (864 + 12 * boxes_count m) (64 * directory_pages (pages_count m))) both.1 in
    let houses = and_parts (leb (houses_count m) 16) (ltb (area_of m) 2) counts.0 in
    let people = and_parts (leb (people_of m) 64) (leb (864 + 12 * boxes_count m) (64 * directory_pages (pages_count m))) counts.1 in
    record {
      length_is = eqb-true (length m) memory_len sized.0;
      pages_most = leb-true (pages_count m) 1048576 pages.1;
      houses_few = leb-true (houses_count m) 16 houses.0;
      people_few = leb-true (people_of m) 64 people.0;
      boxes_few = leb-true (864 + 12 * boxes_count m) (64 * directory_pages (pages_count m)) people.1;
    }
