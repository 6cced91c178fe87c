-- Power comes: whatever the pages keep is read page by page, and the house comes up as it was kept. Nothing is written on the way, so a stop changes nothing.
use Rattle.std.proofs.Common.{◌≡◌, ℕ, zero, suc, ◌+◌, ◌-◌, ◌*◌, ◌/◌, ◌^◌, ◌<◌, ◌≤◌, true, ◌≢◌, List, [], ◌∷◌, length, get_or, take, sym, refl, ap, ◌∙◌, subst, subst₂, inl, inr, zero-add, arith, le-ltb, lt-ltb, eq-eqb, ne_eqb, le-leb}
use Rattle.model.specs.House.{House, weight}
use Rattle.model.specs.Device.{Device, page_at, read_page, stopped, a_page, zeros}
use Rattle.model.specs.Run.{Event, on, page, read, done, World, powered, all_small}
use Rattle.model.specs.Promise.{master, first_house}
use Rattle.pages.specs.Bits.{bit}
use Rattle.pages.specs.Words.{words_in, bytes_of, part, patched}
use Rattle.pages.specs.Geometry.{selector_pages, directory_pages, selector_place, table_place}
use Rattle.pages.specs.Store.{Image, area}
use Rattle.pages.specs.Commit.{first_image}
use Rattle.pages.proofs.Words.{length_patched, all_small_patched, part_patched_after, length_zeros, get_or_zeros, take_zeros, drop_zeros, all_small_zeros, all_small_nil, all_small_cons, all_small_part, length_part, patched_all}
use Rattle.pages.proofs.Geometry.{directory_pages_some, directory_pages_most, selector_pages_some, selector_pages_most, selector_place_lt, table_place_lt}
use Rattle.mailboxes.specs.Directory.{person_place, box_place, first_directory, house_of, Sound}
use Rattle.mailboxes.proofs.Changes.{first_directory_house, first_directory_sound, length_first_directory, all_small_first_directory, with_person_page}
use Rattle.mailboxes.proofs.Weight.{house_weight}
use Rattle.house.specs.declared.phase.Phase.TheVariants.{ReadHeader, ReadSelectors, ReadDirectory, Idle}
use Rattle.house.specs.Memory.{coming_of, in_phase}
use Rattle.house.specs.Machine.{own, powered_up, page_told, header_read, selectors_read, directory_read, first_house_made, touch_record}
use Rattle.house.proofs.Course.{Course, ends, reads}
use Rattle.house.proofs.Regions.{Mem, length_counting, length_coming, length_dir, header_word, to_phase, to_header, to_counting, to_coming, to_dir}
use Rattle.house.proofs.Rest.{FewBoxes, Stands, CommittedImage, Stored, Down, Beside, Up, directory_on}
use Rattle.house.proofs.Steps.{Fit, stands_fit, houses_is, step_page}
use Rattle.house.proofs.Touching.{record_touched, length_record_touched, bit_record_other, agree_record, touch_mem}
use Rattle.house.proofs.Pages.{read_still, down_stopped, whole_page, page_words, header_words, agree_more, agree_all, length_pages, page_of_pages}

-- what a page does in the phases of reading
directory_more : (P t : ℕ) (p m ws cs : List ℕ) → t + 1 < directory_pages P → words_in 64 p ≡ ws → coming_of P m ≡ cs →
    page_told P (ReadDirectory t) p m ≡ record { memory = in_phase (ReadDirectory (t + 1)) (patched m (2272 + 64 * t) ws); act = read (table_place P cs (t + 1)) }
unfolding page_told directory_read
directory_more P t p m ws cs l e k =
    let l' : t < directory_pages P = omega arith in
    rw (lt-ltb t (directory_pages P) l', lt-ltb (t + 1) (directory_pages P) l, e, k)

directory_last : (P t : ℕ) (p m ws : List ℕ) → t + 1 ≡ directory_pages P → words_in 64 p ≡ ws →
    page_told P (ReadDirectory t) p m ≡ record { memory = in_phase Idle (patched m (2272 + 64 * t) ws); act = done }
unfolding page_told directory_read
directory_last P t p m ws l e =
    let l' : t < directory_pages P = omega arith in
    let l'' : directory_pages P ≤ t + 1 = omega arith in
    rw (lt-ltb t (directory_pages P) l', le-ltb (t + 1) (directory_pages P) l'', e)

selectors_more : (P q a : ℕ) (p m ws : List ℕ) → q + 1 < selector_pages P → words_in 64 p ≡ ws → get_or m 65 0 ≡ a →
    page_told P (ReadSelectors q) p m ≡
    record { memory = in_phase (ReadSelectors (q + 1)) (patched (patched m (96 + 64 * q) ws) (1184 + 64 * q) ws); act = read (selector_place P a (q + 1)) }
unfolding page_told selectors_read
selectors_more P q a p m ws l e k =
    let l' : q < selector_pages P = omega arith in
    rw (lt-ltb q (selector_pages P) l', lt-ltb (q + 1) (selector_pages P) l, e, k)

selectors_last : (P q : ℕ) (p m ws cs : List ℕ) → q + 1 ≡ selector_pages P → words_in 64 p ≡ ws →
    coming_of P (patched (patched m (96 + 64 * q) ws) (1184 + 64 * q) ws) ≡ cs →
    page_told P (ReadSelectors q) p m ≡
    record { memory = in_phase (ReadDirectory 0) (patched (patched m (96 + 64 * q) ws) (1184 + 64 * q) ws); act = read (table_place P cs 0) }
unfolding page_told selectors_read
selectors_last P q p m ws cs l e k =
    let l' : q < selector_pages P = omega arith in
    let l'' : selector_pages P ≤ q + 1 = omega arith in
    rw (lt-ltb q (selector_pages P) l', le-ltb (q + 1) (selector_pages P) l'', e, k)

header_some : (P : ℕ) (p m ws : List ℕ) → words_in 32 p ≡ ws → get_or ws 0 0 ≢ 0 → get_or ws 1 0 < 2 →
    page_told P ReadHeader p m ≡ record { memory = in_phase (ReadSelectors 0) (patched m 64 ws); act = read (selector_place P (get_or ws 1 0) 0) }
unfolding page_told header_read
header_some P p m ws e v a = rw (e, ne_eqb (get_or ws 0 0) 0 v, lt-ltb (get_or ws 1 0) 2 a)

header_none : (P : ℕ) (p m ws : List ℕ) → words_in 32 p ≡ ws → get_or ws 0 0 ≡ 0 →
    page_told P ReadHeader p m ≡ record { memory = in_phase Idle (first_house_made P m); act = done }
unfolding page_told header_read
header_none P p m ws e v = rw (e, eq-eqb (get_or ws 0 0) 0 v)

phase_small : (a b e : ℕ) → a < 2 ^ 64 → b < 2 ^ 64 → e < 2 ^ 64 → all_small (a ∷ b ∷ e ∷ []) ≡ true
phase_small a b e k l m = all_small_cons a (b ∷ e ∷ []) k (all_small_cons b (e ∷ []) l (all_small_cons e [] m all_small_nil))

seven_small : (a b e f g i j : ℕ) → a < 2 ^ 64 → b < 2 ^ 64 → e < 2 ^ 64 → f < 2 ^ 64 → g < 2 ^ 64 → i < 2 ^ 64 → j < 2 ^ 64 → all_small (a ∷ b ∷ e ∷ f ∷ g ∷ i ∷ j ∷ []) ≡ true
seven_small a b e f g i j ka kb ke kf kg ki kj =
    all_small_cons a (b ∷ e ∷ f ∷ g ∷ i ∷ j ∷ []) ka (all_small_cons b (e ∷ f ∷ g ∷ i ∷ j ∷ []) kb (all_small_cons e (f ∷ g ∷ i ∷ j ∷ []) ke
    (all_small_cons f (g ∷ i ∷ j ∷ []) kf (phase_small g i j kg ki kj))))

part_zeros : (N a k : ℕ) → a + k ≤ N → part (zeros N) a k ≡ zeros k
part_zeros N a k l = ap (take k) (drop_zeros a N) ∙ take_zeros k (N - a) (omega arith)

module _ (P n c : ℕ) (enough : 256 ≤ P) (few : P ≤ 1048576) (houses : n ≤ 16) (h : House) (d : Device) (D : Down P n h d) where
  -- with power, nothing written
  abbrev Safe : Device → List (List ℕ) → Type 0
  Safe e ss = (ss ≡ []) × ((cs : List ℕ) → Down P n h (stopped e cs))

  abbrev with_memory : List ℕ → World
  with_memory m = record { device = d; memory = m; up = true }

  -- from a memory and an event the house comes up
  abbrev Wakes : List ℕ → Event → Type 0
  Wakes m ev = (w : World) × Course own Safe w [] 0 (with_memory m) ev [] × Up P n h w

  is_safe : Safe d []
  is_safe = (refl, down_stopped P n h d D)

  -- backwards: the last step, and one read in front
  wakes_last : (m : List ℕ) (ev : Event) (m' : List ℕ) → own.step m ev ≡ record { memory = m'; act = done } → Up P n h (with_memory m') → Wakes m ev
  wakes_last m ev m' e u = (with_memory m', ends is_safe (ap (λ s. s.act) e) (ap (λ s. with_memory s.memory) e) refl, u)

  wakes_more : (m : List ℕ) (ev : Event) (k : ℕ) (m' : List ℕ) → own.step m ev ≡ record { memory = m'; act = read k } → Wakes m' (page (page_at d.pages k)) → Wakes m ev
  wakes_more m ev k m' e x = (
    x.0,
    reads k is_safe (ap (λ s. s.act) e)
        (subst (λ r. Course own Safe x.0 [] 0 (with_memory r) (page (read_page d k)) []) (sym (ap (λ s. s.memory) e))
        (subst (λ p. Course own Safe x.0 [] 0 (with_memory m') (page p) []) (sym (read_still d D.still k)) x.1)),
    x.2,
  )

  abbrev s : Image
  s = D.image

  abbrev regs : List ℕ
  regs = c ∷ n ∷ P ∷ 0 ∷ []

  -- page 0 comes first
  first_fit : Fit P n (zeros 32)
  first_fit = record {
    pages_enough = enough;
    houses_few = houses;
    area_small = omega (arith, get_or_zeros 32 1);
    people_few = omega (arith, get_or_zeros 32 2);
    boxes_fit = omega (arith, get_or_zeros 32 3, directory_pages_some P);
  }

  header_step : (counting coming dir m : List ℕ) → Mem P ReadHeader regs (zeros 32) counting coming dir m →
      own.step m (page (page_at d.pages 0)) ≡ page_told P ReadHeader (page_at d.pages 0) m
  header_step counting coming dir m M =
      step_page P n c 0 ReadHeader (zeros 32) counting coming dir m M first_fit (page_at d.pages 0)
      (whole_page d.pages 0 D.whole_pages (omega (arith, D.kept.sized)))

  -- a commit has been made
  module _ (C : CommittedImage P n D.image h) where
    length_directory : length (directory_on P s) ≡ 64 * directory_pages P
    length_directory = length_pages s.table (directory_pages P) 0 (λ t a b. C.table_long t (omega arith))

    directory_page : (t : ℕ) → t < directory_pages P → part (directory_on P s) (64 * t) 64 ≡ s.table t
    directory_page t l = page_of_pages s.table (directory_pages P) 0 t l (λ u a b. C.table_long u (omega arith)) ∙ ap s.table (zero-add t)

    fit : Fit P n s.header
    fit = stands_fit P n s.header (directory_on P s) h enough houses length_directory C.stands

    comes_up : (m : List ℕ) → Mem P Idle regs s.header s.selectors s.selectors (directory_on P s) m → Up P n h (with_memory m)
    comes_up m M = record {
      powered_up = refl;
      down = D;
      house_number = c;
      shown = 0;
      header = s.header;
      counting = s.selectors;
      coming = s.selectors;
      dir = directory_on P s;
      memory_is = M;
      beside = record { counts = refl; clean = λ t l e. sym (directory_page t l); slots_clean = λ t a b. refl };
      area_is = refl;
      version_one = C.some_version;
      stands = C.stands;
    }

    -- a page of the directory comes: its words stand in the memory's directory
    module _ (t : ℕ) (dir m : List ℕ) (l : t < directory_pages P) (M : Mem P (ReadDirectory t) regs s.header s.selectors s.selectors dir m)
        (A : take (64 * t) dir ≡ take (64 * t) (directory_on P s)) where
      abbrev table_page : List ℕ
      table_page = page_at d.pages (table_place P s.selectors t)

      abbrev table_words : List ℕ
      table_words = part (directory_on P s) (64 * t) 64

      table_read : words_in 64 table_page ≡ table_words
      table_read = page_words table_page (s.table t) (D.kept.table_kept t (omega arith)) (C.table_long t (omega arith)) (C.table_small t (omega arith)) ∙ sym (directory_page t l)

      table_whole : a_page table_page ≡ true
      table_whole = whole_page d.pages (table_place P s.selectors t) D.whole_pages (subst (λ k. table_place P s.selectors t < k) (sym D.kept.sized) (table_place_lt P s.selectors t enough (omega arith)))

      table_step : own.step m (page table_page) ≡ page_told P (ReadDirectory t) table_page m
      table_step = step_page P n c 0 (ReadDirectory t) s.header s.selectors s.selectors dir m M fit table_page table_whole

      words_long : length table_words ≡ 64
      words_long = length_part (directory_on P s) (64 * t) 64 (omega (arith, length_directory))

      words_small : all_small table_words ≡ true
      words_small = subst (λ ws. all_small ws ≡ true) (sym (directory_page t l)) (C.table_small t (omega arith))

      table_in : Mem P (ReadDirectory t) regs s.header s.selectors s.selectors (patched dir (64 * t) table_words) (patched m (2272 + 64 * t) table_words)
      table_in = to_dir P (ReadDirectory t) regs s.header s.selectors s.selectors dir m M (64 * t) table_words (omega (arith, words_long)) words_small

      table_agrees : take (64 * (t + 1)) (patched dir (64 * t) table_words) ≡ take (64 * (t + 1)) (directory_on P s)
      table_agrees =
          let e : 64 * (t + 1) ≡ 64 * t + 64 = omega arith in
          let k : length dir ≡ 64 * directory_pages P = length_dir P (ReadDirectory t) regs s.header s.selectors s.selectors dir m M in
          rw e (agree_more dir (directory_on P s) (64 * t) (omega arith) (omega (arith, length_directory)) A)

    directory_wakes : (left t : ℕ) (dir m : List ℕ) → t + suc left ≡ directory_pages P →
        Mem P (ReadDirectory t) regs s.header s.selectors s.selectors dir m → take (64 * t) dir ≡ take (64 * t) (directory_on P s) →
        Wakes m (page (page_at d.pages (table_place P s.selectors t)))
    directory_wakes zero t dir m e M A =
        let l : t < directory_pages P = omega arith in
        let last : t + 1 ≡ directory_pages P = omega arith in
        let ws = table_words t dir m l M A in
        let m₁ = patched m (2272 + 64 * t) ws in
        let dir₁ = patched dir (64 * t) ws in
        let M₁ = table_in t dir m l M A in
        let all : dir₁ ≡ directory_on P s = agree_all dir₁ (directory_on P s) (64 * directory_pages P)
        (length_dir P (ReadDirectory t) regs s.header s.selectors s.selectors dir₁ m₁ M₁) length_directory
        (subst (λ k. take (64 * k) dir₁ ≡ take (64 * k) (directory_on P s)) last (table_agrees t dir m l M A)) in
        wakes_last m (page (table_page t dir m l M A)) (in_phase Idle m₁)
        (table_step t dir m l M A ∙ directory_last P t (table_page t dir m l M A) m ws last (table_read t dir m l M A))
        (comes_up (in_phase Idle m₁) (subst (λ r. Mem P Idle regs s.header s.selectors s.selectors r (in_phase Idle m₁)) all
        (to_phase P (ReadDirectory t) regs s.header s.selectors s.selectors dir₁ m₁ M₁ Idle (phase_small 4 0 0 (omega arith) (omega arith) (omega arith)))))
    directory_wakes (suc left) t dir m e M A =
        let l : t < directory_pages P = omega arith in
        let more : t + 1 < directory_pages P = omega arith in
        let ws = table_words t dir m l M A in
        let m₁ = patched m (2272 + 64 * t) ws in
        let dir₁ = patched dir (64 * t) ws in
        wakes_more m (page (table_page t dir m l M A)) (table_place P s.selectors (t + 1)) (in_phase (ReadDirectory (t + 1)) m₁)
        (table_step t dir m l M A ∙ directory_more P t (table_page t dir m l M A) m ws s.selectors more (table_read t dir m l M A) M.coming_in)
        (directory_wakes left (t + 1) dir₁ (in_phase (ReadDirectory (t + 1)) m₁) (omega arith)
        (to_phase P (ReadDirectory t) regs s.header s.selectors s.selectors dir₁ m₁ (table_in t dir m l M A) (ReadDirectory (t + 1))
        (phase_small 3 (t + 1) 0 (omega arith) (omega (arith, directory_pages_most P)) (omega arith)))
        (table_agrees t dir m l M A))

    -- a selector page comes: its words stand among those that count and those that are to count
    module _ (q : ℕ) (counting coming dir m : List ℕ) (l : q < selector_pages P) (M : Mem P (ReadSelectors q) regs s.header counting coming dir m)
        (A : take (64 * q) counting ≡ take (64 * q) s.selectors) (B : take (64 * q) coming ≡ take (64 * q) s.selectors) where
      abbrev selector_page : List ℕ
      selector_page = page_at d.pages (selector_place P (area s) q)

      abbrev bits : List ℕ
      bits = part s.selectors (64 * q) 64

      abbrev after_bits : List ℕ
      after_bits = patched (patched m (96 + 64 * q) bits) (1184 + 64 * q) bits

      bits_long : length bits ≡ 64
      bits_long = length_part s.selectors (64 * q) 64 (omega (arith, C.selectors_long))

      bits_small : all_small bits ≡ true
      bits_small = all_small_part s.selectors (64 * q) 64 C.selectors_small

      bits_read : words_in 64 selector_page ≡ bits
      bits_read = page_words selector_page bits (D.kept.selectors_kept C.some_version q l) bits_long bits_small

      selector_whole : a_page selector_page ≡ true
      selector_whole = whole_page d.pages (selector_place P (area s) q) D.whole_pages
          (subst (λ k. selector_place P (area s) q < k) (sym D.kept.sized) (selector_place_lt P (area s) q enough C.stands.area_small l))

      selector_step : own.step m (page selector_page) ≡ page_told P (ReadSelectors q) selector_page m
      selector_step = step_page P n c 0 (ReadSelectors q) s.header counting coming dir m M fit selector_page selector_whole

      bits_in : Mem P (ReadSelectors q) regs s.header (patched counting (64 * q) bits) (patched coming (64 * q) bits) dir after_bits
      bits_in =
          to_coming P (ReadSelectors q) regs s.header (patched counting (64 * q) bits) coming dir (patched m (96 + 64 * q) bits)
          (to_counting P (ReadSelectors q) regs s.header counting coming dir m M (64 * q) bits (omega (arith, bits_long)) bits_small)
          (64 * q) bits (omega (arith, bits_long)) bits_small

      bits_agree : (xs : List ℕ) → length xs ≡ 64 * selector_pages P → take (64 * q) xs ≡ take (64 * q) s.selectors →
          take (64 * (q + 1)) (patched xs (64 * q) bits) ≡ take (64 * (q + 1)) s.selectors
      bits_agree xs k a =
          let e : 64 * (q + 1) ≡ 64 * q + 64 = omega arith in
          rw e (agree_more xs s.selectors (64 * q) (omega arith) (omega (arith, C.selectors_long)) a)

      counting_agrees : take (64 * (q + 1)) (patched counting (64 * q) bits) ≡ take (64 * (q + 1)) s.selectors
      counting_agrees = bits_agree counting (length_counting P (ReadSelectors q) regs s.header counting coming dir m M) A

      coming_agrees : take (64 * (q + 1)) (patched coming (64 * q) bits) ≡ take (64 * (q + 1)) s.selectors
      coming_agrees = bits_agree coming (length_coming P (ReadSelectors q) regs s.header counting coming dir m M) B

      -- after the last page all of them are there
      module _ (last : q + 1 ≡ selector_pages P) where
        all_bits : (xs : List ℕ) → length xs ≡ 64 * selector_pages P → take (64 * (q + 1)) xs ≡ take (64 * (q + 1)) s.selectors → xs ≡ s.selectors
        all_bits xs k a = agree_all xs s.selectors (64 * selector_pages P) k C.selectors_long (subst (λ j. take (64 * j) xs ≡ take (64 * j) s.selectors) last a)

        all_in : Mem P (ReadSelectors q) regs s.header s.selectors s.selectors dir after_bits
        all_in = subst₂ (λ xs ys. Mem P (ReadSelectors q) regs s.header xs ys dir after_bits)
            (all_bits (patched counting (64 * q) bits)
            (length_counting P (ReadSelectors q) regs s.header (patched counting (64 * q) bits) (patched coming (64 * q) bits) dir after_bits bits_in) counting_agrees)
            (all_bits (patched coming (64 * q) bits)
            (length_coming P (ReadSelectors q) regs s.header (patched counting (64 * q) bits) (patched coming (64 * q) bits) dir after_bits bits_in) coming_agrees)
            bits_in

        then_directory : Wakes m (page selector_page)
        then_directory =
            wakes_more m (page selector_page) (table_place P s.selectors 0) (in_phase (ReadDirectory 0) after_bits)
            (selector_step ∙ selectors_last P q selector_page m bits s.selectors last bits_read all_in.coming_in)
            (directory_wakes (directory_pages P - 1) 0 dir (in_phase (ReadDirectory 0) after_bits) (omega (arith, directory_pages_some P))
            (to_phase P (ReadSelectors q) regs s.header s.selectors s.selectors dir after_bits all_in (ReadDirectory 0) (phase_small 3 0 0 (omega arith) (omega arith) (omega arith)))
            refl)

    selectors_wake : (left q : ℕ) (counting coming dir m : List ℕ) → q + suc left ≡ selector_pages P →
        Mem P (ReadSelectors q) regs s.header counting coming dir m →
        take (64 * q) counting ≡ take (64 * q) s.selectors → take (64 * q) coming ≡ take (64 * q) s.selectors →
        Wakes m (page (page_at d.pages (selector_place P (area s) q)))
    selectors_wake zero q counting coming dir m e M A B = then_directory q counting coming dir m (omega arith) M A B (omega arith)
    selectors_wake (suc left) q counting coming dir m e M A B =
        let l : q < selector_pages P = omega arith in
        let more : q + 1 < selector_pages P = omega arith in
        let ws = bits q counting coming dir m l M A B in
        let m₁ = after_bits q counting coming dir m l M A B in
        let M₁ = bits_in q counting coming dir m l M A B in
        let p = selector_page q counting coming dir m l M A B in
        wakes_more m (page p) (selector_place P (area s) (q + 1)) (in_phase (ReadSelectors (q + 1)) m₁)
        (selector_step q counting coming dir m l M A B
        ∙ selectors_more P q (area s) p m ws more (bits_read q counting coming dir m l M A B) (header_word P (ReadSelectors q) regs s.header counting coming dir m M 1 (omega arith)))
        (selectors_wake left (q + 1) (patched counting (64 * q) ws) (patched coming (64 * q) ws) dir (in_phase (ReadSelectors (q + 1)) m₁) (omega arith)
        (to_phase P (ReadSelectors q) regs s.header (patched counting (64 * q) ws) (patched coming (64 * q) ws) dir m₁ M₁ (ReadSelectors (q + 1))
        (phase_small 2 (q + 1) 0 (omega arith) (omega (arith, selector_pages_most P few)) (omega arith)))
        (counting_agrees q counting coming dir m l M A B) (coming_agrees q counting coming dir m l M A B))

    header_wakes : (counting coming dir m : List ℕ) → Mem P ReadHeader regs (zeros 32) counting coming dir m → Wakes m (page (page_at d.pages 0))
    header_wakes counting coming dir m M =
        let p = page_at d.pages 0 in
        let m₁ = patched m 64 s.header in
        let M₁ = to_header P ReadHeader regs (zeros 32) counting coming dir m M 0 s.header (omega (arith, C.header_long)) C.header_small in
        let all : patched (zeros 32) 0 s.header ≡ s.header = patched_all (zeros 32) s.header (C.header_long ∙ sym (length_zeros 32)) in
        wakes_more m (page p) (selector_place P (area s) 0) (in_phase (ReadSelectors 0) m₁)
        (header_step counting coming dir m M ∙ header_some P p m s.header (header_words p s.header D.kept.header_kept C.header_long C.header_small) C.some_version C.stands.area_small)
        (selectors_wake (selector_pages P - 1) 0 counting coming dir (in_phase (ReadSelectors 0) m₁) (omega (arith, selector_pages_some P))
        (to_phase P ReadHeader regs s.header counting coming dir m₁ (subst (λ r. Mem P ReadHeader regs r counting coming dir m₁) all M₁) (ReadSelectors 0)
        (phase_small 2 0 0 (omega arith) (omega arith) (omega arith)))
        refl refl)

  -- before the first commit
  module _ (first : s ≡ first_image P) (same : h ≡ first_house n) where
    abbrev no_bits : List ℕ
    no_bits = zeros (64 * selector_pages P)

    abbrev no_directory : List ℕ
    no_directory = zeros (64 * directory_pages P)

    abbrev first_words : List ℕ
    first_words = 1 ∷ 0 ∷ 1 ∷ 1 ∷ 0 ∷ 0 ∷ (776 + 64 * n) ∷ []

    abbrev first_header : List ℕ
    first_header = patched (zeros 32) 0 first_words

    abbrev first_bits : List ℕ
    first_bits = record_touched no_bits (record_touched no_bits no_bits (person_place 0)) (box_place 0)

    room : 876 ≤ length no_directory
    room = omega (arith, length_zeros (64 * directory_pages P), directory_pages_some P)

    made : (m : List ℕ) → Mem P ReadHeader regs (zeros 32) no_bits no_bits no_directory m →
        Mem P ReadHeader regs first_header no_bits first_bits (first_directory no_directory) (first_house_made P m)
    unfolding first_house_made
    made m M =
        let ws : all_small first_words ≡ true = seven_small 1 0 1 1 0 0 (776 + 64 * n) (omega arith) (omega arith) (omega arith) (omega arith) (omega arith) (omega arith) (omega arith) in
        let M₁ = to_header P ReadHeader regs (zeros 32) no_bits no_bits no_directory m M 0 first_words (omega arith) ws in
        let m₁ = patched m 64 first_words in
        let M₂ = to_dir P ReadHeader regs first_header no_bits no_bits no_directory m₁ M₁ 0 (first_directory no_directory)
        (omega (arith, length_first_directory no_directory room, length_zeros (64 * directory_pages P)))
        (all_small_first_directory no_directory (all_small_zeros (64 * directory_pages P))) in
        let m₂ = patched m₁ 2272 (first_directory no_directory) in
        let all : patched no_directory 0 (first_directory no_directory) ≡ first_directory no_directory =
        patched_all no_directory (first_directory no_directory) (length_first_directory no_directory room) in
        let M₃ = subst (λ r. Mem P ReadHeader regs first_header no_bits no_bits r m₂) all M₂ in
        let M₄ = touch_mem P ReadHeader regs first_header no_bits no_bits (first_directory no_directory) m₂ M₃ (person_place 0) in
        let M₅ = touch_mem P ReadHeader regs first_header no_bits (record_touched no_bits no_bits (person_place 0)) (first_directory no_directory) (touch_record P (person_place 0) m₂) M₄ (box_place 0) in
        rw (houses_is P n c 0 ReadHeader (zeros 32) no_bits no_bits no_directory m M, M.directory_in) M₅

    first_sound : Sound 1 1 (first_directory no_directory)
    first_sound = first_directory_sound no_directory room

    first_house_is : h ≡ house_of n 1 1 (first_directory no_directory)
    first_house_is = same ∙ sym (first_directory_house no_directory room n)

    first_weight : weight h ≡ 776 + 64 * n
    first_weight = ap weight first_house_is ∙ house_weight n 1 1 (first_directory no_directory) first_sound

    first_stands : Stands P n first_header (first_directory no_directory) h
    first_stands = record {
      area_small = omega arith;
      sound = first_sound;
      house_is = first_house_is;
      weight_is = sym first_weight;
      light = omega (arith, first_weight);
      few_boxes = subst (λ g. FewBoxes g) (sym same) refl;
    }

    -- the pages that the first two records lie on are to change, and no others
    within : (t : ℕ) → t < 64 → t / 64 < length no_bits
    within t l = omega (arith, length_zeros (64 * selector_pages P), selector_pages_some P)

    apart : (t : ℕ) → bit no_bits t ≡ bit first_bits t → (t ≢ 13) × (t ≢ 0)
    apart t e =
        let once = record_touched no_bits no_bits (person_place 0) in
        let k : length once ≡ length no_bits = length_record_touched no_bits no_bits (person_place 0) in
        let a = agree_record no_bits once (box_place 0) t (omega (arith, within 13 (omega arith))) (omega (arith, within 13 (omega arith))) e in
        let b = agree_record no_bits no_bits (person_place 0) t (within 0 (omega arith)) (within 0 (omega arith)) a.2 in
        (a.0, b.0)

    first_beside : Beside P s no_bits first_bits (first_directory no_directory)
    unfolding first_directory
    first_beside = record {
      counts = sym (ap (λ i. i.selectors) first);
      clean = λ t l e. let a = apart t e in
          ap (λ i. i.table t) first ∙ sym (part_zeros (64 * directory_pages P) (64 * t) 64 (omega arith))
          ∙ sym (with_person_page 0 0 no_directory master (omega arith) room t a.0 a.0 a.1 a.1);
      slots_clean = λ t a b.
          let m : 14 ≤ t = omega (arith, directory_pages_some P) in
          sym (bit_record_other no_bits (record_touched no_bits no_bits (person_place 0)) (box_place 0) t (λ q. omega arith) (λ q. omega arith)
          ∙ bit_record_other no_bits no_bits (person_place 0) t (λ q. omega arith) (λ q. omega arith));
    }

    first_wakes : (m : List ℕ) → Mem P ReadHeader regs (zeros 32) no_bits no_bits no_directory m → Wakes m (page (page_at d.pages 0))
    first_wakes m M =
        let p = page_at d.pages 0 in
        let k : words_in 32 p ≡ zeros 32 = header_words p (zeros 32) (D.kept.header_kept ∙ ap (λ i. bytes_of i.header) first) (length_zeros 32) (all_small_zeros 32) in
        wakes_last m (page p) (in_phase Idle (first_house_made P m))
        (header_step no_bits no_bits no_directory m M ∙ header_none P p m (zeros 32) k (get_or_zeros 32 0))
        (record {
          powered_up = refl;
          down = D;
          house_number = c;
          shown = 0;
          header = first_header;
          counting = no_bits;
          coming = first_bits;
          dir = first_directory no_directory;
          memory_is = to_phase P ReadHeader regs first_header no_bits first_bits (first_directory no_directory) (first_house_made P m) (made m M) Idle
              (phase_small 4 0 0 (omega arith) (omega arith) (omega arith));
          beside = first_beside;
          area_is = sym (ap (λ i. get_or i.header 1 0) first ∙ get_or_zeros 32 1);
          version_one = λ e. omega arith;
          stands = first_stands;
        })

  -- the memory once power is there: zeros but for the registers
  abbrev start_words : List ℕ
  start_words = 1 ∷ 0 ∷ 0 ∷ c ∷ n ∷ P ∷ 0 ∷ []

  start_region : (a k : ℕ) → 7 ≤ a → a + k ≤ 262144 → part (patched (zeros 262144) 0 start_words) a k ≡ zeros k
  start_region a k l m = part_patched_after (zeros 262144) 0 start_words a k (omega arith) (omega arith) ∙ part_zeros 262144 a k m

  start_mem : c < n → Mem P ReadHeader regs (zeros 32) (zeros (64 * selector_pages P)) (zeros (64 * selector_pages P)) (zeros (64 * directory_pages P)) (patched (zeros 262144) 0 start_words)
  start_mem l =
      let q : selector_pages P ≤ 17 = selector_pages_most P few in
      let t : directory_pages P ≤ 3086 = directory_pages_most P in
      record {
        few = few;
        long = length_patched (zeros 262144) 0 start_words (omega (arith, length_zeros 262144)) ∙ length_zeros 262144;
        small = all_small_patched (zeros 262144) 0 start_words (all_small_zeros 262144)
            (seven_small 1 0 0 c n P 0 (omega arith) (omega arith) (omega arith) (omega arith) (omega arith) (omega arith) (omega arith));
        phase_in = refl;
        regs_in = refl;
        header_in = start_region 64 32 (omega arith) (omega arith);
        counting_in = start_region 96 (64 * selector_pages P) (omega arith) (omega arith);
        coming_in = start_region 1184 (64 * selector_pages P) (omega arith) (omega arith);
        directory_in = start_region 2272 (64 * directory_pages P) (omega arith) (omega arith);
      }

  start_step : c < n → own.step own.start (on c n P) ≡ record { memory = patched (zeros 262144) 0 start_words; act = read 0 }
  unfolding own powered_up
  start_step l =
      rw (eq-eqb (length (zeros 262144)) 262144 (length_zeros 262144), lt-ltb c n l, le-leb n 16 houses, le-leb 256 P enough, le-leb P 1048576 few)

  page_0_wakes : (m : List ℕ) → Mem P ReadHeader regs (zeros 32) (zeros (64 * selector_pages P)) (zeros (64 * selector_pages P)) (zeros (64 * directory_pages P)) m →
      Stored P n s h → Wakes m (page (page_at d.pages 0))
  page_0_wakes m M (inl f) = first_wakes f.0 f.1 m M
  page_0_wakes m M (inr C) = header_wakes C (zeros (64 * selector_pages P)) (zeros (64 * selector_pages P)) (zeros (64 * directory_pages P)) m M

  comes_on : c < n → Wakes own.start (on c n P)
  comes_on l = wakes_more own.start (on c n P) 0 (patched (zeros 262144) 0 start_words) (start_step l) (page_0_wakes (patched (zeros 262144) 0 start_words) (start_mem l) D.stored)

-- power brings up what the pages keep
pub wakes : (P n c : ℕ) → 256 ≤ P → P ≤ 1048576 → n ≤ 16 → (h : House) (v : World) → c < n → Down P n h v.device →
    (w : World) × Course own (λ d ss. (ss ≡ []) × ((cs : List ℕ) → Down P n h (stopped d cs))) w [] 0 (powered own v) (on c n P) [] × Up P n h w
wakes P n c enough few houses h v l D = comes_on P n c enough few houses h v.device D l
