-- A command that changes the directory: from the changed memory through the commit to a house at rest again, safe at every stop.
use Rattle.std.proofs.Common.{◌≡◌, ℕ, zero, suc, ◌+◌, ◌-◌, ◌*◌, ◌<◌, ◌≤◌, Bool, true, eqb, ◌≢◌, ◌⊎◌, List, [], ◌∷◌, ◌++◌, length, get_or, take, sym, refl, ap, ◌∙◌, subst, ap₂, inl, inr, arith, le-ltb, lt-ltb, eq-eqb, ne_eqb}
use native.Mathlib.Decide.{dec_lt, ℕ_discrete}
use Rattle.std.proofs.lemmas.List.{take_all, append-nil, append_assoc}
use Rattle.model.specs.Mail.{pick, flat, eight}
use Rattle.model.specs.House.{Command, House, Plain, turn, house_at, set_house}
use Rattle.model.specs.Device.{Device, stopped}
use Rattle.model.specs.Run.{Event, said, next, World, all_small, shows, done}
use Rattle.model.specs.Promise.{Said, May, Mid, TurnMay, NoPush}
use Rattle.pages.specs.Words.{part, patched}
use Rattle.pages.specs.Geometry.{selector_pages, directory_pages, table_pages}
use Rattle.pages.specs.Store.{Image, Kept, area}
use Rattle.pages.proofs.Words.{length_part, length_patched, part_more, all_small_part, all_small_patched, all_small_cons, all_small_nil, get_or_patched, get_or_patched_before, get_or_patched_after, patched_all, length_zeros, all_small_zeros}
use Rattle.mailboxes.specs.Directory.{count_up}
use Rattle.mailboxes.proofs.Places.{count_up_push}
use Rattle.house.specs.declared.phase.Phase.{Phase}
use Rattle.house.specs.declared.phase.Phase.TheVariants.{Idle, Committed, Shown}
use Rattle.house.specs.Memory.{in_phase}
use Rattle.house.specs.Machine.{own, go, commit, committed, next_told}
use Rattle.house.proofs.Works.{Works, works_goes}
use Rattle.house.proofs.Places.{house_back}
use Rattle.house.proofs.Fronts.{world, then_shows, then_ends}
use Rattle.house.proofs.Regions.{Mem, length_header, small_header, length_coming, small_coming, length_dir, small_dir, length_counting, to_phase, to_counting}
use Rattle.house.proofs.Rest.{WholePages, Stands, CommittedImage, Stored, Down, Beside, Up, directory_on}
use Rattle.house.proofs.Steps.{Fit, stands_fit, step_next, shown_is}
use Rattle.house.proofs.Pages.{down_stopped}
use Rattle.house.specs.Knows.{known}
use Rattle.house.proofs.Does.{SafeAt, Does}
use Rattle.house.proofs.Commits.{new_image, turned_header, GoesTo, small_three, commit_course}

-- the pages of a list of words, put together again
flat_append : (f : ℕ → List ℕ) (xs ys : List ℕ) → flat f (xs ++ ys) ≡ flat f xs ++ flat f ys
flat_append f [] ys = refl
flat_append f (x ∷ xs) ys = ap (λ z. f x ++ z) (flat_append f xs ys) ∙ sym (append_assoc (f x) (flat f xs) (flat f ys))

pub flat_pages : (f : ℕ → List ℕ) (dir : List ℕ) (k : ℕ) → ((t : ℕ) → t < k → f t ≡ part dir (64 * t) 64) → flat f (count_up 0 k) ≡ take (64 * k) dir
unfolding count_up
flat_pages f dir zero same = refl
flat_pages f dir (suc k) same =
    ap (flat f) (count_up_push k) ∙ flat_append f (count_up 0 k) (k ∷ [])
    ∙ ap₂ (λ x y. x ++ y) (flat_pages f dir k (λ t l. same t (omega arith))) (append-nil (f k) ∙ same k (omega arith))
    ∙ one_more
  where
    one_more : take (64 * k) dir ++ part dir (64 * k) 64 ≡ take (64 * suc k) dir
    one_more =
        let e : 64 * k + 64 ≡ 64 * suc k = omega arith in
        let z : 0 + 64 * k ≡ 64 * k = omega arith in
        ap (λ x. take (64 * k) dir ++ part dir x 64) (sym z) ∙ sym (part_more dir 0 (64 * k) 64) ∙ ap (λ x. take x dir) e

-- the header whose area was turned says the same otherwise
module _ (header : List ℕ) (long : length header ≡ 32) where
  turned_before : get_or (turned_header header) 0 0 ≡ get_or header 0 0
  turned_before = get_or_patched_before header 1 ((1 - get_or header 1 0) ∷ []) 0 0 (omega arith) (omega arith)

  turned_at : get_or (turned_header header) 1 0 ≡ 1 - get_or header 1 0
  turned_at = get_or_patched header 1 ((1 - get_or header 1 0) ∷ []) 0 0 (omega arith) (omega arith)

  turned_after : (i : ℕ) → 2 ≤ i → get_or (turned_header header) i 0 ≡ get_or header i 0
  turned_after i l = get_or_patched_after header 1 ((1 - get_or header 1 0) ∷ []) i 0 (omega arith) (omega arith)

  turned_stands : (P n : ℕ) (dir : List ℕ) (h : House) → Stands P n header dir h → Stands P n (turned_header header) dir h
  turned_stands P n dir h s = record {
    area_small = omega (arith, turned_at, s.area_small);
    sound = rw (turned_after 2 (omega arith), turned_after 3 (omega arith)) s.sound;
    house_is = rw (turned_after 2 (omega arith), turned_after 3 (omega arith)) s.house_is;
    weight_is = turned_after 6 (omega arith) ∙ s.weight_is;
    light = s.light;
    few_boxes = s.few_boxes;
  }

-- slots of any image that is stored have their words
slot_words : (P n : ℕ) (s : Image) (h : House) → Stored P n s h → (t : ℕ) → t < table_pages P → (length (s.table t) ≡ 64) × (all_small (s.table t) ≡ true)
slot_words P n s h (inl f) t l = subst (λ (i : Image). (length (i.table t) ≡ 64) × (all_small (i.table t) ≡ true)) (sym f.0) (length_zeros 64, all_small_zeros 64)
slot_words P n s h (inr c) t l = (c.table_long t l, c.table_small t l)

-- after the commit: the new image is stored, and a memory at rest stands beside it
module _ (P n : ℕ) (old : Image) (h : House) (stored : Stored P n old h) (num x : ℕ) (header counting coming dir m : List ℕ) (h' : House)
    (M : Mem P Idle (num ∷ n ∷ P ∷ x ∷ []) header counting coming dir m) (stands : Stands P n header dir h') (versioned : get_or header 0 0 ≢ 0) where
  abbrev regs : List ℕ
  regs = num ∷ n ∷ P ∷ x ∷ []

  abbrev new : Image
  new = new_image P old (turned_header header) coming dir

  long_header : length header ≡ 32
  long_header = length_header P Idle regs header counting coming dir m M

  table_is : (t : ℕ) → t < directory_pages P → new.table t ≡ part dir (64 * t) 64
  table_is t l = ap (λ b. pick b (part dir (64 * t) 64) (old.table t)) (lt-ltb t (directory_pages P) l)

  directory_is : directory_on P new ≡ dir
  directory_is = flat_pages new.table dir (directory_pages P) table_is ∙ take_all (64 * directory_pages P) dir (omega (arith, length_dir P Idle regs header counting coming dir m M))

  table_words : (t : ℕ) → t < table_pages P → (length (new.table t) ≡ 64) × (all_small (new.table t) ≡ true)
  table_words t l = by (dec_lt t (directory_pages P))
    where
      by : Dec (t < directory_pages P) → (length (new.table t) ≡ 64) × (all_small (new.table t) ≡ true)
      by (yes y) = subst (λ ws. (length ws ≡ 64) × (all_small ws ≡ true)) (sym (table_is t y))
          (length_part dir (64 * t) 64 (omega (arith, length_dir P Idle regs header counting coming dir m M)), all_small_part dir (64 * t) 64 (small_dir P Idle regs header counting coming dir m M))
      by (no y) = subst (λ ws. (length ws ≡ 64) × (all_small ws ≡ true)) (sym (ap (λ b. pick b (part dir (64 * t) 64) (old.table t)) (le-ltb t (directory_pages P) (omega arith)))) (slot_words P n old h stored t l)

  turned_small : all_small (turned_header header) ≡ true
  turned_small = all_small_patched header 1 ((1 - get_or header 1 0) ∷ []) (small_header P Idle regs header counting coming dir m M) (all_small_cons (1 - get_or header 1 0) [] (omega (arith, stands.area_small)) all_small_nil)

  pub new_stored : CommittedImage P n new h'
  new_stored = record {
    some_version = λ e. versioned (sym (turned_before header long_header) ∙ e);
    header_long = length_patched header 1 ((1 - get_or header 1 0) ∷ []) (omega (arith, long_header)) ∙ long_header;
    header_small = turned_small;
    selectors_long = length_coming P Idle regs header counting coming dir m M;
    selectors_small = small_coming P Idle regs header counting coming dir m M;
    table_long = λ t l. (table_words t l).0;
    table_small = λ t l. (table_words t l).1;
    stands = subst (λ ws. Stands P n (turned_header header) ws h') (sym directory_is) (turned_stands header long_header P n dir h' stands);
  }

  pub new_down : (d : Device) → Kept P new d.pages → WholePages d.pages → d.queue ≡ [] → Down P n h' d
  new_down d k g q = record { image = new; kept = k; whole_pages = g; still = q; stored = inr new_stored }

  pub new_up : (u : Bool) → u ≡ true → (d : Device) (m' : List ℕ) → Kept P new d.pages → WholePages d.pages → d.queue ≡ [] → Mem P Idle regs (turned_header header) coming coming dir m' → Up P n h' (world u d m')
  unfolding new_down
  new_up u on d m' k g q M' = record {
    powered_up = on;
    down = new_down d k g q;
    house_number = num;
    shown = x;
    header = turned_header header;
    counting = coming;
    coming = coming;
    dir = dir;
    memory_is = M';
    beside = record { counts = refl; clean = λ t l e. table_is t l; slots_clean = λ t l k. refl };
    area_is = refl;
    version_one = λ e. versioned (sym (turned_before header long_header) ∙ e);
    stands = turned_stands header long_header P n dir h' stands;
  }

-- The commit of a changed memory, begun by any event at a house at rest: whenever it stops on the way, the house of before or that of after counts; and at its end what
-- follows has the new house on its pages, and is at rest with it in any memory that is idle. So a letter that is heard, or a push, commits as a command does.
module _ (P n : ℕ) (low : 256 ≤ P) (high : P ≤ 1048576) (few : n ≤ 16) (h : House) (v : World) (U : Up P n h v) (ev : Event) (x : ℕ) (header coming dir m : List ℕ) (h' : House)
    (begins : own.step v.memory ev ≡ commit P 0 m)
    (M : Mem P Idle (U.house_number ∷ n ∷ P ∷ x ∷ []) header U.counting coming dir m)
    (stands : Stands P n header dir h') (versioned : get_or header 0 0 ≢ 0) (area_kept : get_or header 1 0 ≡ area U.down.image)
    (beside : Beside P U.down.image U.counting coming dir)
    (Then : World → Event → Type 0)
    (after : (m₂ : List ℕ) (d : Device) → Mem P Committed (U.house_number ∷ n ∷ P ∷ x ∷ []) (turned_header header) U.counting coming dir m₂ → Down P n h' d
    → ((m' : List ℕ) → Mem P Idle (U.house_number ∷ n ∷ P ∷ x ∷ []) (turned_header header) coming coming dir m' → Up P n h' (world v.up d m')) → Then (world v.up d m₂) next)
  where
    long_header₂ : length header ≡ 32
    long_header₂ = length_header P Idle (U.house_number ∷ n ∷ P ∷ x ∷ []) header U.counting coming dir m M

    dir_long₂ : length dir ≡ 64 * directory_pages P
    dir_long₂ = length_dir P Idle (U.house_number ∷ n ∷ P ∷ x ∷ []) header U.counting coming dir m M

    before_or_after : (d : Device) → ((cs : List ℕ) → (Kept P U.down.image (stopped d cs).pages ⊎ Kept P (new_image P U.down.image (turned_header header) coming dir) (stopped d cs).pages) × WholePages (stopped d cs).pages)
        → (cs : List ℕ) → Down P n h (stopped d cs) ⊎ Down P n h' (stopped d cs)
    before_or_after d f cs = by (f cs).0
      where
        by : Kept P U.down.image (stopped d cs).pages ⊎ Kept P (new_image P U.down.image (turned_header header) coming dir) (stopped d cs).pages → Down P n h (stopped d cs) ⊎ Down P n h' (stopped d cs)
        by (inl k) = inl (record { image = U.down.image; kept = k; whole_pages = (f cs).1; still = refl; stored = U.down.stored })
        by (inr k) = inr (new_down P n U.down.image h U.down.stored U.house_number x header U.counting coming dir m h' M stands versioned (stopped d cs) k (f cs).1 refl)

    pub settle_works : Works own (λ d. (cs : List ℕ) → Down P n h (stopped d cs) ⊎ Down P n h' (stopped d cs)) Then (directory_pages P + selector_pages P + 3) v ev
    settle_works = commit_course P low high v.up U.down.image (U.house_number ∷ n ∷ P ∷ x ∷ []) header U.counting coming dir (Fit P n)
        (λ phase hd m₂ F M₂. step_next P n U.house_number x phase hd U.counting coming dir m₂ M₂ F)
        (stands_fit P n header dir h' low few dir_long₂ stands) (stands_fit P n (turned_header header) dir h' low few dir_long₂ (turned_stands header long_header₂ P n dir h' stands))
        long_header₂ stands.area_small area_kept beside
        (λ d. (cs : List ℕ) → Down P n h (stopped d cs) ⊎ Down P n h' (stopped d cs)) Then before_or_after
        (λ m₂ d M₂ q k g. after m₂ d M₂ (new_down P n U.down.image h U.down.stored U.house_number x header U.counting coming dir m h' M stands versioned d k g q)
        (λ m' M'. new_up P n U.down.image h U.down.stored U.house_number x header U.counting coming dir m h' M stands versioned v.up U.powered_up d m' k g q M'))
        v.memory m ev v.device Idle begins M U.down.kept U.down.whole_pages U.down.still

-- the rows that a command shows after its commit
abbrev pub rows_after : ℕ → List (List ℕ)
rows_after x = pick (eqb x 0) [] (eight (x - 1) ∷ [])

-- A command at rest whose step begins the commit of a changed memory.
module _ (P n : ℕ) (low : 256 ≤ P) (high : P ≤ 1048576) (few : n ≤ 16) (s : Plain) (c : ℕ) (v : World) (U : Up P n (house_at s c) v) (text : List ℕ)
    (a : Command) (said_so : Said text a) (is_Known : known a ≡ true) (not_push : NoPush a)
    (x : ℕ) (header coming dir m : List ℕ) (h' : House)
    (begins : own.step v.memory (said text) ≡ commit P 0 m)
    (M : Mem P Idle (U.house_number ∷ n ∷ P ∷ x ∷ []) header U.counting coming dir m)
    (stands : Stands P n header dir h') (versioned : get_or header 0 0 ≢ 0) (area_kept : get_or header 1 0 ≡ area U.down.image)
    (beside : Beside P U.down.image U.counting coming dir)
    (turn_reply : (turn (length s) c (house_at s c) a).reply ≡ 0) (turn_shows : (turn (length s) c (house_at s c) a).shows ≡ rows_after x) (turn_next : (turn (length s) c (house_at s c) a).next ≡ h')
  where
    old : Image
    old = U.down.image

    abbrev regs₁ : List ℕ
    regs₁ = U.house_number ∷ n ∷ P ∷ x ∷ []

    abbrev after_image : Image
    after_image = new_image P U.down.image (turned_header header) coming dir

    long_header₁ : length header ≡ 32
    long_header₁ = length_header P Idle regs₁ header U.counting coming dir m M

    dir_long : length dir ≡ 64 * directory_pages P
    dir_long = length_dir P Idle regs₁ header U.counting coming dir m M

    fit_old : Fit P n header
    fit_old = stands_fit P n header dir h' low few dir_long stands

    fit_new : Fit P n (turned_header header)
    fit_new = stands_fit P n (turned_header header) dir h' low few dir_long (turned_stands header long_header₁ P n dir h' stands)

    -- as before
    before_safe : (rs more : List (List ℕ)) → rows_after x ≡ rs ++ more → Mid known s c text rs (set_house s c (house_at s c))
    unfolding Mid
    before_safe rs more e = inl (house_back s c, inr (a, said_so, more, turn_shows ∙ e))

    after_safe : (rs more : List (List ℕ)) → rows_after x ≡ rs ++ more → Mid known s c text rs (set_house s c h')
    unfolding Mid
    after_safe rs more e = inr (inl (a, said_so, is_Known, not_push, more, turn_shows ∙ e, ap (set_house s c) (sym turn_next)))

    safe : (d : Device) → ((cs : List ℕ) → (Kept P U.down.image (stopped d cs).pages ⊎ Kept P after_image (stopped d cs).pages) × WholePages (stopped d cs).pages) → SafeAt P n s c text d []
    safe d f cs = by (f cs).0
      where
        by : Kept P U.down.image (stopped d cs).pages ⊎ Kept P after_image (stopped d cs).pages → (g : House) × Mid known s c text [] (set_house s c g) × Down P n g (stopped d cs)
        by (inl k) = (house_at s c, before_safe [] (rows_after x) refl, record { image = U.down.image; kept = k; whole_pages = (f cs).1; still = refl; stored = U.down.stored })
        by (inr k) = (h', after_safe [] (rows_after x) refl, new_down P n U.down.image (house_at s c) U.down.stored U.house_number x header U.counting coming dir m h' M stands versioned (stopped d cs) k (f cs).1 refl)

    settled_safe : (d : Device) → Down P n h' d → (rs more : List (List ℕ)) → rows_after x ≡ rs ++ more → SafeAt P n s c text d rs
    settled_safe d D rs more e cs = (h', after_safe rs more e, down_stopped P n h' d D cs)

    abbrev rest_memory : List ℕ → List ℕ
    rest_memory m₂ = patched m₂ 96 coming

    -- what was to count counts
    counted : (m₂ : List ℕ) → Mem P Committed regs₁ (turned_header header) U.counting coming dir m₂ → Mem P Committed regs₁ (turned_header header) coming coming dir (rest_memory m₂)
    counted m₂ M₂ =
        let lc = length_coming P Committed regs₁ (turned_header header) U.counting coming dir m₂ M₂ in
        let lk = length_counting P Committed regs₁ (turned_header header) U.counting coming dir m₂ M₂ in
        subst (λ ws. Mem P Committed regs₁ (turned_header header) ws coming dir (rest_memory m₂)) (patched_all U.counting coming (lc ∙ sym lk))
        (to_counting P Committed regs₁ (turned_header header) U.counting coming dir m₂ M₂ 0 coming (omega arith) (small_coming P Committed regs₁ (turned_header header) U.counting coming dir m₂ M₂))

    committed_step : (m₂ : List ℕ) → Mem P Committed regs₁ (turned_header header) U.counting coming dir m₂ →
        own.step m₂ next ≡ pick (eqb x 0) (go Idle done (rest_memory m₂)) (go Shown (shows (eight (x - 1))) (rest_memory m₂))
    unfolding next_told committed
    committed_step m₂ M₂ =
        let t : get_or m₂ 6 0 ≡ x = shown_is P n U.house_number x Committed (turned_header header) U.counting coming dir m₂ M₂ in
        step_next P n U.house_number x Committed (turned_header header) U.counting coming dir m₂ M₂ fit_new
        ∙ ap₂ (λ y ws. pick (eqb y 0) (go Idle done (patched m₂ 96 ws)) (go Shown (shows (eight (y - 1))) (patched m₂ 96 ws))) t M₂.coming_in

    after : (m₂ : List ℕ) (d : Device) → Mem P Committed regs₁ (turned_header header) U.counting coming dir m₂ → d.queue ≡ [] → Kept P after_image d.pages → WholePages d.pages
        → GoesTo (SafeAt P n s c text) (Up P n h') (rows_after x) 0 (world v.up d m₂) next
    unfolding next_told
    after m₂ d M₂ q k g = by (ℕ_discrete x 0)
      where
        D : Down P n h' d
        D = new_down P n U.down.image (house_at s c) U.down.stored U.house_number x header U.counting coming dir m h' M stands versioned d k g q

        up : (m' : List ℕ) → Mem P Idle regs₁ (turned_header header) coming coming dir m' → Up P n h' (world v.up d m')
        up m' M' = new_up P n U.down.image (house_at s c) U.down.stored U.house_number x header U.counting coming dir m h' M stands versioned v.up U.powered_up d m' k g q M'

        at_rest : (phase : Phase) (m' : List ℕ) → Mem P phase regs₁ (turned_header header) coming coming dir m' → Mem P Idle regs₁ (turned_header header) coming coming dir (in_phase Idle m')
        at_rest phase m' M' = to_phase P phase regs₁ (turned_header header) coming coming dir m' M' Idle (small_three 4 0 0 (omega arith) (omega arith) (omega arith))

        done_now : x ≡ 0 → GoesTo (SafeAt P n s c text) (Up P n h') [] 0 (world v.up d m₂) next
        done_now e = (
          world v.up d (in_phase Idle (rest_memory m₂)),
          then_ends own (SafeAt P n s c text) [] v.up d m₂ (in_phase Idle (rest_memory m₂)) next
              (committed_step m₂ M₂ ∙ ap (λ b. pick b (go Idle done (rest_memory m₂)) (go Shown (shows (eight (x - 1))) (rest_memory m₂))) (eq-eqb x 0 e))
              (settled_safe d D [] (rows_after x) refl),
          up (in_phase Idle (rest_memory m₂)) (at_rest Committed (rest_memory m₂) (counted m₂ M₂)),
        )

        shown_memory : List ℕ
        shown_memory = in_phase Shown (rest_memory m₂)

        shown_mem : Mem P Shown regs₁ (turned_header header) coming coming dir (in_phase Shown (rest_memory m₂))
        shown_mem = to_phase P Committed regs₁ (turned_header header) coming coming dir (rest_memory m₂) (counted m₂ M₂) Shown (small_three 11 0 0 (omega arith) (omega arith) (omega arith))

        show_first : (x ≡ 0 → ⊥) → rows_after x ≡ eight (x - 1) ∷ [] → GoesTo (SafeAt P n s c text) (Up P n h') (eight (x - 1) ∷ []) 0 (world v.up d m₂) next
        show_first e r = (
          world v.up d (in_phase Idle (in_phase Shown (rest_memory m₂))),
          then_shows own (SafeAt P n s c text) (world v.up d (in_phase Idle (in_phase Shown (rest_memory m₂)))) (eight (x - 1) ∷ []) 0 v.up d m₂ (in_phase Shown (rest_memory m₂)) next [] (eight (x - 1))
              (committed_step m₂ M₂ ∙ ap (λ b. pick b (go Idle done (rest_memory m₂)) (go Shown (shows (eight (x - 1))) (rest_memory m₂))) (ne_eqb x 0 e))
              (settled_safe d D [] (rows_after x) refl)
              (then_ends own (SafeAt P n s c text) (eight (x - 1) ∷ []) v.up d (in_phase Shown (rest_memory m₂)) (in_phase Idle (in_phase Shown (rest_memory m₂))) next
              (step_next P n U.house_number x Shown (turned_header header) coming coming dir (in_phase Shown (rest_memory m₂)) shown_mem fit_new)
              (settled_safe d D (eight (x - 1) ∷ []) [] (r ∙ sym (append-nil (eight (x - 1) ∷ []))))),
          up (in_phase Idle (in_phase Shown (rest_memory m₂))) (at_rest Shown (in_phase Shown (rest_memory m₂)) shown_mem),
        )

        by : Dec (x ≡ 0) → GoesTo (SafeAt P n s c text) (Up P n h') (rows_after x) 0 (world v.up d m₂) next
        by (yes e) = subst (λ rs. GoesTo (SafeAt P n s c text) (Up P n h') rs 0 (world v.up d m₂) next) (sym (ap (λ b. pick b [] (eight (x - 1) ∷ [])) (eq-eqb x 0 e))) (done_now e)
        by (no e) =
            let r : rows_after x ≡ eight (x - 1) ∷ [] = ap (λ b. pick b [] (eight (x - 1) ∷ [])) (ne_eqb x 0 e) in
            subst (λ rs. GoesTo (SafeAt P n s c text) (Up P n h') rs 0 (world v.up d m₂) next) (sym r) (show_first e r)

    -- the whole command
    pub settles : (ls : ℕ) (up : Bool) → Does P n s c text ls up v
    unfolding May TurnMay
    settles ls up =
        let g = works_goes own (SafeAt P n s c text) (Up P n h') (rows_after x) 0 [] (commit_course P low high v.up U.down.image regs₁ header U.counting coming dir (Fit P n)
        (λ phase hd m₂ F M₂. step_next P n U.house_number x phase hd U.counting coming dir m₂ M₂ F) fit_old fit_new long_header₁ stands.area_small area_kept beside
        (λ x₁. SafeAt P n s c text x₁ []) (λ w ev. GoesTo (SafeAt P n s c text) (Up P n h') (rows_after x) 0 w ev) safe after v.memory m (said text) v.device Idle begins M U.down.kept U.down.whole_pages U.down.still) in (
          h',
          g.0,
          rows_after x,
          0,
          inl (a, said_so, is_Known, inl (not_push, inl (sym turn_reply, sym turn_shows, ap (set_house s c) (sym turn_next)))),
          g.1,
          g.2,
        )
