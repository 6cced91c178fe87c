-- The memory by its regions: what each holds, and what a write to one of them leaves of the others.
use Rattle.std.proofs.Common.{◌≡◌, ℕ, ◌+◌, ◌*◌, ◌<◌, ◌≤◌, true, List, length, get_or, sym, refl, ap, ◌∙◌, subst, zero-add, arith, lt-ltb, eq-eqb, le-leb}
use Rattle.model.specs.Run.{all_small}
use Rattle.pages.specs.Words.{part, patched}
use Rattle.pages.specs.Geometry.{selector_pages, directory_pages}
use Rattle.pages.proofs.Words.{length_part, length_patched, all_small_patched, part_patched, part_patched_before, part_patched_after, part_patched_inside, part_of_part, get_d_part, all_small_part}
use Rattle.pages.proofs.Geometry.{selector_pages_most, directory_pages_most}
use Rattle.house.specs.declared.phase.Phase.{Phase}
use Rattle.house.specs.declared.phase.Phase.TheVariants.{Off, ReadHeader, ReadSelectors, ReadDirectory, Idle, ShowBoxes, WriteTable, WriteSelectors, WriteHeader, FlushHeader, Committed, Shown}
use Rattle.house.specs.Memory.{phase_in, phase_of, phase_words, in_phase, sensible}

-- a memory in a phase: registers (the house's number, how many houses and pages, what is to be shown), the header's words, the selector words that
-- count and that are to count, and the directory
pub record Mem (P : ℕ) (phase : Phase) (regs header counting coming dir : List ℕ) (m : List ℕ) : Type 0 where
  pub few : P ≤ 1048576
  pub long : length m ≡ 262144
  pub small : all_small m ≡ true
  pub phase_in : part m 0 3 ≡ phase_words phase
  pub regs_in : part m 3 4 ≡ regs
  pub header_in : part m 64 32 ≡ header
  pub counting_in : part m 96 (64 * selector_pages P) ≡ counting
  pub coming_in : part m 1184 (64 * selector_pages P) ≡ coming
  pub directory_in : part m 2272 (64 * directory_pages P) ≡ dir

phase_length : (phase : Phase) → length (phase_words phase) ≡ 3
phase_length Off = refl
phase_length ReadHeader = refl
phase_length (ReadSelectors q) = refl
phase_length (ReadDirectory t) = refl
phase_length Idle = refl
phase_length (ShowBoxes a i) = refl
phase_length (WriteTable t) = refl
phase_length (WriteSelectors q) = refl
phase_length WriteHeader = refl
phase_length FlushHeader = refl
phase_length Committed = refl
phase_length Shown = refl

-- a phase is found again in its words
phase_back : (phase : Phase) → phase_in (get_or (phase_words phase) 0 0) (get_or (phase_words phase) 1 0) (get_or (phase_words phase) 2 0) ≡ phase
phase_back Off = refl
phase_back ReadHeader = refl
phase_back (ReadSelectors q) = refl
phase_back (ReadDirectory t) = refl
phase_back Idle = refl
phase_back (ShowBoxes a i) = refl
phase_back (WriteTable t) = refl
phase_back (WriteSelectors q) = refl
phase_back WriteHeader = refl
phase_back FlushHeader = refl
phase_back Committed = refl
phase_back Shown = refl

module _ (P : ℕ) (phase : Phase) (regs header counting coming dir m : List ℕ) (M : Mem P phase regs header counting coming dir m) where
  selectors_few : selector_pages P ≤ 17
  selectors_few = selector_pages_most P M.few

  pages_few : directory_pages P ≤ 3086
  pages_few = directory_pages_most P

  -- a part of the memory is as long as it says
  region_length : (at n : ℕ) (ws : List ℕ) → at + n ≤ 262144 → part m at n ≡ ws → length ws ≡ n
  region_length at n ws l e = ap length (sym e) ∙ length_part m at n (omega (arith, M.long))

  region_small : (at n : ℕ) (ws : List ℕ) → part m at n ≡ ws → all_small ws ≡ true
  region_small at n ws e = subst (λ x. all_small x ≡ true) e (all_small_part m at n M.small)

  pub length_regs : length regs ≡ 4
  length_regs = region_length 3 4 regs (omega arith) M.regs_in

  pub length_header : length header ≡ 32
  length_header = region_length 64 32 header (omega arith) M.header_in

  pub length_counting : length counting ≡ 64 * selector_pages P
  length_counting = region_length 96 (64 * selector_pages P) counting (omega (arith, selectors_few)) M.counting_in

  pub length_coming : length coming ≡ 64 * selector_pages P
  length_coming = region_length 1184 (64 * selector_pages P) coming (omega (arith, selectors_few)) M.coming_in

  pub length_dir : length dir ≡ 64 * directory_pages P
  length_dir = region_length 2272 (64 * directory_pages P) dir (omega (arith, pages_few)) M.directory_in

  pub small_header : all_small header ≡ true
  small_header = region_small 64 32 header M.header_in

  pub small_counting : all_small counting ≡ true
  small_counting = region_small 96 (64 * selector_pages P) counting M.counting_in

  pub small_coming : all_small coming ≡ true
  small_coming = region_small 1184 (64 * selector_pages P) coming M.coming_in

  pub small_dir : all_small dir ≡ true
  small_dir = region_small 2272 (64 * directory_pages P) dir M.directory_in

  -- reading
  phase_word : (i : ℕ) → i < 3 → get_or m i 0 ≡ get_or (phase_words phase) i 0
  phase_word i l = ap (λ k. get_or m k 0) (sym (zero-add i)) ∙ sym (get_d_part m 0 3 i 0 l) ∙ ap (λ ws. get_or ws i 0) M.phase_in

  pub phase_is : phase_of m ≡ phase
  phase_is = rw (phase_word 0 (omega arith), phase_word 1 (omega arith), phase_word 2 (omega arith)) (phase_back phase)

  pub reg_is : (i : ℕ) → i < 4 → get_or m (3 + i) 0 ≡ get_or regs i 0
  reg_is i l = sym (get_d_part m 3 4 i 0 l) ∙ ap (λ ws. get_or ws i 0) M.regs_in

  pub header_word : (i : ℕ) → i < 32 → get_or m (64 + i) 0 ≡ get_or header i 0
  header_word i l = sym (get_d_part m 64 32 i 0 l) ∙ ap (λ ws. get_or ws i 0) M.header_in

  pub dir_page : (t : ℕ) → t < directory_pages P → part m (2272 + 64 * t) 64 ≡ part dir (64 * t) 64
  dir_page t l = sym (part_of_part m 2272 (64 * directory_pages P) (64 * t) 64 (omega arith)) ∙ ap (λ ws. part ws (64 * t) 64) M.directory_in

  pub coming_page : (q : ℕ) → q < selector_pages P → part m (1184 + 64 * q) 64 ≡ part coming (64 * q) 64
  coming_page q l = sym (part_of_part m 1184 (64 * selector_pages P) (64 * q) 64 (omega arith)) ∙ ap (λ ws. part ws (64 * q) 64) M.coming_in

  -- a step can work on it
  pub is_sensible : get_or regs 2 0 ≡ P → 256 ≤ P → get_or regs 1 0 ≤ 16 → get_or header 1 0 < 2 → get_or header 2 0 ≤ 64 → 864 + 12 * get_or header 3 0 ≤ 64 * directory_pages P → sensible m ≡ true
  unfolding sensible
  is_sensible a b c d e f =
      rw (
        reg_is 2 (omega arith),
        reg_is 1 (omega arith),
        header_word 1 (omega arith),
        header_word 2 (omega arith),
        header_word 3 (omega arith),
        a,
        eq-eqb (length m) 262144 M.long,
        le-leb 256 P b,
        le-leb P 1048576 M.few,
        le-leb (get_or regs 1 0) 16 c,
        lt-ltb (get_or header 1 0) 2 d,
        le-leb (get_or header 2 0) 64 e,
        le-leb (864 + 12 * get_or header 3 0) (64 * directory_pages P) f,
      )

  -- a write keeps the length and what lies before or after it
  module _ (at : ℕ) (ws : List ℕ) (l : at + length ws ≤ 262144) (s : all_small ws ≡ true) where
    long_after : length (patched m at ws) ≡ 262144
    long_after = length_patched m at ws (omega (arith, M.long)) ∙ M.long

    small_after : all_small (patched m at ws) ≡ true
    small_after = all_small_patched m at ws M.small s

    lies_before : (b n : ℕ) (xs : List ℕ) → b + n ≤ at → part m b n ≡ xs → part (patched m at ws) b n ≡ xs
    lies_before b n xs h e = part_patched_before m at ws b n (omega (arith, M.long)) h ∙ e

    lies_after : (b n : ℕ) (xs : List ℕ) → at + length ws ≤ b → part m b n ≡ xs → part (patched m at ws) b n ≡ xs
    lies_after b n xs h e = part_patched_after m at ws b n (omega (arith, M.long)) h ∙ e

  inside : (a n b : ℕ) (ws xs : List ℕ) → b + length ws ≤ n → a + n ≤ 262144 → part m a n ≡ xs → part (patched m (a + b) ws) a n ≡ patched xs b ws
  inside a n b ws xs h l e = part_patched_inside m a b n ws h (omega (arith, M.long)) ∙ ap (λ x. patched x b ws) e

  -- writing
  pub to_phase : (phase' : Phase) → all_small (phase_words phase') ≡ true → Mem P phase' regs header counting coming dir (in_phase phase' m)
  to_phase phase' s =
      let l : length (phase_words phase') ≡ 3 = phase_length phase' in
      let k : 0 + length (phase_words phase') ≤ 262144 = omega arith in
      record {
        few = M.few;
        long = long_after 0 (phase_words phase') k s;
        small = small_after 0 (phase_words phase') k s;
        phase_in = ap (λ n. part (patched m 0 (phase_words phase')) 0 n) (sym l) ∙ part_patched m 0 (phase_words phase') (omega arith);
        regs_in = lies_after 0 (phase_words phase') k s 3 4 regs (omega arith) M.regs_in;
        header_in = lies_after 0 (phase_words phase') k s 64 32 header (omega arith) M.header_in;
        counting_in = lies_after 0 (phase_words phase') k s 96 (64 * selector_pages P) counting (omega arith) M.counting_in;
        coming_in = lies_after 0 (phase_words phase') k s 1184 (64 * selector_pages P) coming (omega arith) M.coming_in;
        directory_in = lies_after 0 (phase_words phase') k s 2272 (64 * directory_pages P) dir (omega arith) M.directory_in;
      }

  pub to_regs : (b : ℕ) (ws : List ℕ) → b + length ws ≤ 4 → all_small ws ≡ true → Mem P phase (patched regs b ws) header counting coming dir (patched m (3 + b) ws)
  to_regs b ws l s =
      let k : 3 + b + length ws ≤ 262144 = omega arith in
      record {
        few = M.few;
        long = long_after (3 + b) ws k s;
        small = small_after (3 + b) ws k s;
        phase_in = lies_before (3 + b) ws k s 0 3 (phase_words phase) (omega arith) M.phase_in;
        regs_in = inside 3 4 b ws regs l (omega arith) M.regs_in;
        header_in = lies_after (3 + b) ws k s 64 32 header (omega arith) M.header_in;
        counting_in = lies_after (3 + b) ws k s 96 (64 * selector_pages P) counting (omega arith) M.counting_in;
        coming_in = lies_after (3 + b) ws k s 1184 (64 * selector_pages P) coming (omega arith) M.coming_in;
        directory_in = lies_after (3 + b) ws k s 2272 (64 * directory_pages P) dir (omega arith) M.directory_in;
      }

  pub to_header : (b : ℕ) (ws : List ℕ) → b + length ws ≤ 32 → all_small ws ≡ true → Mem P phase regs (patched header b ws) counting coming dir (patched m (64 + b) ws)
  to_header b ws l s =
      let k : 64 + b + length ws ≤ 262144 = omega arith in
      record {
        few = M.few;
        long = long_after (64 + b) ws k s;
        small = small_after (64 + b) ws k s;
        phase_in = lies_before (64 + b) ws k s 0 3 (phase_words phase) (omega arith) M.phase_in;
        regs_in = lies_before (64 + b) ws k s 3 4 regs (omega arith) M.regs_in;
        header_in = inside 64 32 b ws header l (omega arith) M.header_in;
        counting_in = lies_after (64 + b) ws k s 96 (64 * selector_pages P) counting (omega arith) M.counting_in;
        coming_in = lies_after (64 + b) ws k s 1184 (64 * selector_pages P) coming (omega arith) M.coming_in;
        directory_in = lies_after (64 + b) ws k s 2272 (64 * directory_pages P) dir (omega arith) M.directory_in;
      }

  pub to_counting : (b : ℕ) (ws : List ℕ) → b + length ws ≤ 64 * selector_pages P → all_small ws ≡ true → Mem P phase regs header (patched counting b ws) coming dir (patched m (96 + b) ws)
  to_counting b ws l s =
      let q = selectors_few in
      let k : 96 + b + length ws ≤ 262144 = omega arith in
      record {
        few = M.few;
        long = long_after (96 + b) ws k s;
        small = small_after (96 + b) ws k s;
        phase_in = lies_before (96 + b) ws k s 0 3 (phase_words phase) (omega arith) M.phase_in;
        regs_in = lies_before (96 + b) ws k s 3 4 regs (omega arith) M.regs_in;
        header_in = lies_before (96 + b) ws k s 64 32 header (omega arith) M.header_in;
        counting_in = inside 96 (64 * selector_pages P) b ws counting l (omega arith) M.counting_in;
        coming_in = lies_after (96 + b) ws k s 1184 (64 * selector_pages P) coming (omega arith) M.coming_in;
        directory_in = lies_after (96 + b) ws k s 2272 (64 * directory_pages P) dir (omega arith) M.directory_in;
      }

  pub to_coming : (b : ℕ) (ws : List ℕ) → b + length ws ≤ 64 * selector_pages P → all_small ws ≡ true → Mem P phase regs header counting (patched coming b ws) dir (patched m (1184 + b) ws)
  to_coming b ws l s =
      let q = selectors_few in
      let k : 1184 + b + length ws ≤ 262144 = omega arith in
      record {
        few = M.few;
        long = long_after (1184 + b) ws k s;
        small = small_after (1184 + b) ws k s;
        phase_in = lies_before (1184 + b) ws k s 0 3 (phase_words phase) (omega arith) M.phase_in;
        regs_in = lies_before (1184 + b) ws k s 3 4 regs (omega arith) M.regs_in;
        header_in = lies_before (1184 + b) ws k s 64 32 header (omega arith) M.header_in;
        counting_in = lies_before (1184 + b) ws k s 96 (64 * selector_pages P) counting (omega arith) M.counting_in;
        coming_in = inside 1184 (64 * selector_pages P) b ws coming l (omega arith) M.coming_in;
        directory_in = lies_after (1184 + b) ws k s 2272 (64 * directory_pages P) dir (omega arith) M.directory_in;
      }

  pub to_dir : (b : ℕ) (ws : List ℕ) → b + length ws ≤ 64 * directory_pages P → all_small ws ≡ true → Mem P phase regs header counting coming (patched dir b ws) (patched m (2272 + b) ws)
  to_dir b ws l s =
      let q = selectors_few in
      let r = pages_few in
      let k : 2272 + b + length ws ≤ 262144 = omega arith in
      record {
        few = M.few;
        long = long_after (2272 + b) ws k s;
        small = small_after (2272 + b) ws k s;
        phase_in = lies_before (2272 + b) ws k s 0 3 (phase_words phase) (omega arith) M.phase_in;
        regs_in = lies_before (2272 + b) ws k s 3 4 regs (omega arith) M.regs_in;
        header_in = lies_before (2272 + b) ws k s 64 32 header (omega arith) M.header_in;
        counting_in = lies_before (2272 + b) ws k s 96 (64 * selector_pages P) counting (omega arith) M.counting_in;
        coming_in = lies_before (2272 + b) ws k s 1184 (64 * selector_pages P) coming (omega arith) M.coming_in;
        directory_in = inside 2272 (64 * directory_pages P) b ws dir l (omega arith) M.directory_in;
      }
