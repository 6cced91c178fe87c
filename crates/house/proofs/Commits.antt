-- A commit, act by act: from a memory whose directory has changed to pages that keep it, safe at every stop.
use Rattle.std.proofs.Common.{◌≡◌, ℕ, zero, suc, ◌+◌, ◌-◌, ◌*◌, ◌^◌, ◌<◌, ◌≤◌, Bool, true, ltb, ◌≢◌, ◌⊎◌, List, [], ◌∷◌, ◌++◌, length, get_or, take, Some, None, Option, sym, refl, ap, ◌∙◌, subst, ap₂, inl, inr, ⊎_elim, arith, le-ltb, lt-ltb, eq-eqb, MatchOption}
use native.Mathlib.Decide.{dec_lt}
use Rattle.std.proofs.lemmas.List.{take_at, length-append}
use Rattle.std.proofs.lemmas.Bool.{cases_eq, and_from}
use Rattle.model.specs.Mail.{pick}
use Rattle.model.specs.Device.{Device, Page, flushed, stopped, a_page, zeros}
use Rattle.model.specs.Run.{Event, next, write, flush, World, queued, writable, all_small}
use Rattle.pages.specs.Words.{bytes_of, part, patched}
use Rattle.pages.specs.Bits.{bit}
use Rattle.pages.specs.Geometry.{selector_pages, directory_pages, table_pages, selector_place, table_place}
use Rattle.pages.specs.Touched.{first_touched, Untouched, IsFirst}
use Rattle.pages.specs.Store.{Image, Kept, area}
use Rattle.pages.proofs.Words.{page_of_words, length_part, length_patched, length_bytes_of, all_bytes_of, length_zeros, get_or_patched, all_small_cons, all_small_nil}
use Rattle.model.proofs.Places.{every_append}
use Rattle.mailboxes.proofs.Names.{all_bytes_zeros}
use Rattle.pages.proofs.Touched.{first_touched_says}
use Rattle.pages.proofs.Geometry.{table_place_lt, selector_place_lt, selector_pages_most, selector_pages_some, directory_pages_most}
use Rattle.pages.proofs.Harmless.{Both, Working, working_stopped, working_queued, working_flushed, working_still}
use Rattle.pages.proofs.Kept.{bodies_begin}
use Rattle.pages.proofs.Commit.{Follows, Committing, Prepared, Everywhere, Nowhere, Also, begins, turns, shown_less, writes_table, writes_selectors, first_flush, header_stopped, second_flush}
use Rattle.house.specs.declared.phase.Phase.{Phase}
use Rattle.house.specs.declared.phase.Phase.TheVariants.{WriteTable, WriteSelectors, WriteHeader, FlushHeader, Committed}
use Rattle.house.specs.Memory.{in_phase}
use Rattle.house.specs.Machine.{own, go, commit, table_written, selectors_written, selectors_next, header_written, next_told}
use Rattle.house.proofs.Course.{Course}
use Rattle.house.proofs.Fronts.{world, step_to}
use Rattle.house.proofs.Works.{Works, leads, works_more, first_writes, first_flushes}
use Rattle.house.proofs.Regions.{Mem, length_coming, length_dir, header_word, dir_page, coming_page, to_phase, to_header}
use Rattle.house.proofs.Rest.{WholePages, Beside}
use Rattle.house.proofs.Sizes.{whole_harmless}

-- what is kept of bodies is left open here: nothing
abbrev pub AnyBodies : List Page → Type 0
AnyBodies ps = Unit {0}

-- the image that a commit makes of the memory
abbrev pub new_image : ℕ → Image → (header coming dir : List ℕ) → Image
new_image P s header coming dir = record { header = header; selectors = coming; table = λ t. pick (ltb t (directory_pages P)) (part dir (64 * t) 64) (s.table t) }

-- the header as it is written: the other area counts
abbrev pub turned_header : List ℕ → List ℕ
turned_header header = patched header 1 ((1 - get_or header 1 0) ∷ [])

pub small_three : (a b c : ℕ) → a < 2 ^ 64 → b < 2 ^ 64 → c < 2 ^ 64 → all_small (a ∷ b ∷ c ∷ []) ≡ true
small_three a b c p q r = all_small_cons a (b ∷ c ∷ []) p (all_small_cons b (c ∷ []) q (all_small_cons c [] r all_small_nil))

-- a course from here to a world of which something holds
abbrev pub GoesTo : (Device → List (List ℕ) → Type 0) → (World → Type 0) → List (List ℕ) → ℕ → World → Event → Type 0
GoesTo Safe Final ss' end w ev = (w' : World) × Course own Safe w' ss' end w ev [] × Final w'

module _ (P : ℕ) (low : 256 ≤ P) (high : P ≤ 1048576) (u : Bool) (s : Image) (regs header counting coming dir : List ℕ) where
  -- the image that comes
  abbrev s' : Image
  s' = new_image P s (turned_header header) coming dir

  module _ (Fits : List ℕ → Type 0)
      (on_next : (phase : Phase) (hd m : List ℕ) → Fits hd → Mem P phase regs hd counting coming dir m → own.step m next ≡ next_told P phase m)
      (fits_old : Fits header) (fits_new : Fits (turned_header header))
      (header_long : length header ≡ 32) (area_small : get_or header 1 0 < 2) (area_is : get_or header 1 0 ≡ area s) (beside : Beside P s counting coming dir)
      (Safe : Device → Type 0) (Then : World → Event → Type 0)
      (safe : (d : Device) → ((cs : List ℕ) → (Kept P s (stopped d cs).pages ⊎ Kept P s' (stopped d cs).pages) × WholePages (stopped d cs).pages) → Safe d)
      (after : (m : List ℕ) (d : Device) → Mem P Committed regs (turned_header header) counting coming dir m → d.queue ≡ [] → Kept P s' d.pages → WholePages d.pages → Then (world u d m) next)
    where
      -- at most so many acts, and then what follows the commit
      abbrev Goes : ℕ → World → Event → Type 0
      Goes i w ev = Works own Safe Then i w ev

      go_writes : (i : ℕ) (d : Device) (m m₁ : List ℕ) (ev : Event) (k : ℕ) (p : Page) → own.step m ev ≡ step_to m₁ (write k p) → Safe d → writable d k p ≡ true → Goes i (world u (queued d k p) m₁) next → Goes (suc i) (world u d m) ev
      go_writes i d m m₁ ev k p e s ok g = first_writes own Safe Then i u d m m₁ ev k p e s ok g

      go_flushes : (i : ℕ) (d : Device) (m m₁ : List ℕ) (ev : Event) → own.step m ev ≡ step_to m₁ flush → Safe d → Goes i (world u (flushed d) m₁) next → Goes (suc i) (world u d m) ev
      go_flushes i d m m₁ ev e s g = first_flushes own Safe Then i u d m m₁ ev e s g

      turned_area : area s' ≡ 1 - get_or header 1 0
      turned_area = get_or_patched header 1 ((1 - get_or header 1 0) ∷ []) 0 0 (omega arith) (omega arith)

      follows : Follows P s s' AnyBodies AnyBodies
      follows = record {
        room = bodies_begin P low;
        old_area = omega (arith, area_is);
        new_area = turned_area ∙ ap (λ a. 1 - a) area_is;
        old_bodies = λ ps k p l b. tt;
        new_bodies = λ ps k p l b. tt;
      }

      -- of the table a page is right that was not touched, or that comes before the next one to write
      abbrev RightBefore : ℕ → ℕ → Type 0
      RightBefore j t = (bit counting t ≡ bit coming t) ⊎ (t < j)

      -- a device at work: the old image counts, pages are whole
      pub record AtWork (tables selectors : ℕ → Type 0) (d : Device) : Type 0 where
        pub commits : Committing P s s' AnyBodies AnyBodies tables selectors d
        pub wholes : Working WholePages d

      safe_working : (tables selectors : ℕ → Type 0) (d : Device) → AtWork tables selectors d → Safe d
      safe_working tables selectors d a = safe d (λ cs. (inl (working_stopped (Both (Kept P s) AnyBodies) d a.commits.working cs).0, working_stopped WholePages d a.wholes cs))

      sized : (tables selectors : ℕ → Type 0) (d : Device) → AtWork tables selectors d → length d.pages ≡ P
      sized tables selectors d a = a.commits.working.counts.0.sized

      -- the last acts: the header waits, is flushed, and the new image counts
      header_page : Page
      header_page = bytes_of (turned_header header) ++ zeros 256

      length_turned : length (turned_header header) ≡ 32
      length_turned = length_patched header 1 ((1 - get_or header 1 0) ∷ []) (omega arith) ∙ header_long

      header_bytes : length (bytes_of (turned_header header)) ≡ 256
      header_bytes = length_bytes_of (turned_header header) ∙ ap (λ n. 8 * n) length_turned

      header_front : take 256 header_page ≡ bytes_of (turned_header header)
      unfolding header_page
      header_front = take_at (bytes_of (turned_header header)) (zeros 256) 256 header_bytes

      header_512 : length header_page ≡ 512
      unfolding header_page
      header_512 = length-append (bytes_of (turned_header header)) (zeros 256) ∙ rw (header_bytes, length_zeros 256)

      header_whole : a_page header_page ≡ true
      unfolding header_page
      header_whole = and_from _ _ (eq-eqb (length header_page) 512 header_512) (every_append (λ b. ltb b 256) (bytes_of (turned_header header)) (zeros 256) (all_bytes_of (turned_header header)) (all_bytes_zeros 256))

      flush_header : (m : List ℕ) (d : Device) → Mem P FlushHeader regs (turned_header header) counting coming dir m → Prepared P s s' AnyBodies AnyBodies d → Working WholePages d
          → Goes 1 (world u (queued d 0 header_page) m) next
      unfolding next_told
      flush_header m d M r g =
          let q = queued d 0 header_page in
          let g₁ : Working WholePages q = working_queued WholePages d 0 header_page g (whole_harmless 0 header_page header_whole) in
          let g₂ = working_flushed WholePages q g₁ in
          let k = second_flush P s s' AnyBodies AnyBodies follows d r header_page header_front in
          go_flushes 0 q m (in_phase Committed m) next
          (on_next FlushHeader (turned_header header) m fits_new M)
          (safe q (λ cs. (⊎_elim (λ x. inl x.0) (λ x. inr x.0) (header_stopped P s s' AnyBodies AnyBodies follows d r header_page header_front (omega (arith, header_512)) cs), working_stopped WholePages q g₁ cs)))
          (leads (after (in_phase Committed m) (flushed q) (to_phase P FlushHeader regs (turned_header header) counting coming dir m M Committed (small_three 10 0 0 (omega arith) (omega arith) (omega arith))) refl k.counts.0 g₂.counts))

      header_step : (m : List ℕ) → Mem P WriteHeader regs header counting coming dir m → next_told P WriteHeader m ≡ step_to (in_phase FlushHeader (patched m 65 ((1 - get_or header 1 0) ∷ []))) (write 0 header_page)
      unfolding next_told header_written header_page
      header_step m M =
          let a : get_or m 65 0 ≡ get_or header 1 0 = header_word P WriteHeader regs header counting coming dir m M 1 (omega arith) in
          let M₁ : Mem P WriteHeader regs (turned_header header) counting coming dir (patched m 65 ((1 - get_or header 1 0) ∷ [])) = to_header P WriteHeader regs header counting coming dir m M 1 ((1 - get_or header 1 0) ∷ []) (omega arith) (all_small_cons (1 - get_or header 1 0) [] (omega arith) all_small_nil) in
          rw (a, M₁.header_in)

      -- the flush before the header is done: the header is written
      write_header : (m : List ℕ) (d : Device) → Mem P WriteHeader regs header counting coming dir m → Prepared P s s' AnyBodies AnyBodies d → Working WholePages d
          → Goes 2 (world u d m) next
      write_header m d M r g =
          let m₁ = patched m 65 ((1 - get_or header 1 0) ∷ []) in
          let M₁ : Mem P WriteHeader regs (turned_header header) counting coming dir m₁ = to_header P WriteHeader regs header counting coming dir m M 1 ((1 - get_or header 1 0) ∷ []) (omega arith) (all_small_cons (1 - get_or header 1 0) [] (omega arith) all_small_nil) in
          go_writes 1 d m (in_phase FlushHeader m₁) next 0 header_page
          (on_next WriteHeader header m fits_old M ∙ header_step m M)
          (safe d (λ cs. (inl (working_stopped (Kept P s) d (working_still (Kept P s) d r.still r.old.0) cs), working_stopped WholePages d g cs)))
          (and_from (ltb 0 (length d.pages)) (a_page header_page) (lt-ltb 0 (length d.pages) (omega (arith, r.old.0.sized))) header_whole)
          (flush_header (in_phase FlushHeader m₁) d (to_phase P WriteHeader regs (turned_header header) counting coming dir m₁ M₁ FlushHeader (small_three 9 0 0 (omega arith) (omega arith) (omega arith))) r g)

      -- a selector page goes into the other area
      abbrev selector_page : ℕ → Page
      selector_page q = bytes_of (part coming (64 * q) 64)

      selector_step : (q : ℕ) (phase : Phase) (m : List ℕ) → q < selector_pages P → Mem P phase regs header counting coming dir m
          → selectors_written P q m ≡ step_to (in_phase (WriteSelectors (q + 1)) m) (write (selector_place P (area s') q) (selector_page q))
      selector_step q phase m l M =
          let a : get_or m 65 0 ≡ get_or header 1 0 = header_word P phase regs header counting coming dir m M 1 (omega arith) in
          let b : part m (1184 + 64 * q) 64 ≡ part coming (64 * q) 64 = coming_page P phase regs header counting coming dir m M q l in
          ap (λ z. step_to (in_phase (WriteSelectors (q + 1)) m) z) (ap₂ (λ x y. write (selector_place P x q) (bytes_of y)) (ap (λ x. 1 - x) a ∙ sym turned_area) b)

      select_one : (i q : ℕ) → q < selector_pages P → (m₀ m : List ℕ) (ev : Event) (d : Device) (phase : Phase) → own.step m₀ ev ≡ selectors_written P q m → Mem P phase regs header counting coming dir m
          → AtWork Everywhere (λ r. r < q) d
          → ((d₁ : Device) → AtWork Everywhere (λ r. r < q + 1) d₁ → Goes i (world u d₁ (in_phase (WriteSelectors (q + 1)) m)) next)
          → Goes (suc i) (world u d m₀) ev
      select_one i q l m₀ m ev d phase e M a rest =
          let p = selector_page q in
          let at = selector_place P (area s') q in
          let Q = selector_pages_most P high in
          let long : length (part coming (64 * q) 64) ≡ 64 = length_part coming (64 * q) 64 (omega (arith, length_coming P phase regs header counting coming dir m M)) in
          let page_ok : a_page p ≡ true = page_of_words (part coming (64 * q) 64) long in
          let small : area s' < 2 = omega (arith, turned_area) in
          go_writes i d m₀ (in_phase (WriteSelectors (q + 1)) m) ev at p
          (e ∙ selector_step q phase m l M)
          (safe_working Everywhere (λ r. r < q) d a)
          (and_from (ltb at (length d.pages)) (a_page p) (lt-ltb at (length d.pages) (subst (λ n. at < n) (sym (sized Everywhere (λ r. r < q) d a)) (selector_place_lt P (area s') q low small l))) page_ok)
          (rest (queued d at p) (record {
            commits = shown_less P s s' AnyBodies AnyBodies Everywhere (Also q (λ r. r < q)) Everywhere (λ r. r < q + 1) (queued d at p) (λ t x y. tt)
                (λ r x y. upto r (cases_eq r q) y)
                (writes_selectors P s s' AnyBodies AnyBodies follows Everywhere (λ r. r < q) d q p l refl a.commits);
            wholes = working_queued WholePages d at p a.wholes (whole_harmless at p page_ok);
          }))
        where
          upto : (r : ℕ) → (r ≡ q) ⊎ (r ≢ q) → r < q + 1 → (r ≡ q) ⊎ (r < q)
          upto r (inl h) x = inl h
          upto r (inr h) x = inr (omega arith)

      -- selector pages from one on, then the flush
      select : (k q : ℕ) → q + k ≡ selector_pages P → (m : List ℕ) (d : Device) → Mem P (WriteSelectors q) regs header counting coming dir m
          → AtWork Everywhere (λ r. r < q) d → Goes (k + 3) (world u d m) next
      unfolding next_told selectors_next
      select zero q e m d M a =
          go_flushes 2 d m (in_phase WriteHeader m) next
          (on_next (WriteSelectors q) header m fits_old M ∙ ap (λ b. pick b (selectors_written P q m) (go WriteHeader flush m)) (le-ltb q (selector_pages P) (omega arith)))
          (safe_working Everywhere (λ r. r < q) d a)
          (write_header (in_phase WriteHeader m) (flushed d) (to_phase P (WriteSelectors q) regs header counting coming dir m M WriteHeader (small_three 8 0 0 (omega arith) (omega arith) (omega arith)))
          (first_flush P s s' AnyBodies AnyBodies Everywhere (λ r. r < q) d (λ t l. tt) (λ r l. omega arith) a.commits) (working_flushed WholePages d a.wholes))
      select (suc k) q e m d M a =
          let Q = selector_pages_most P high in
          let l : q < selector_pages P = omega arith in
          let n : q + 1 + k ≡ selector_pages P = omega arith in
          works_more own Safe Then (suc (k + 3)) (suc k + 3) (omega arith) (select_one (k + 3) q l m m next d (WriteSelectors q)
          (on_next (WriteSelectors q) header m fits_old M ∙ ap (λ b. pick b (selectors_written P q m) (go WriteHeader flush m)) (lt-ltb q (selector_pages P) l)) M a
          (λ d₁ a₁. select k (q + 1) n (in_phase (WriteSelectors (q + 1)) m) d₁
          (to_phase P (WriteSelectors q) regs header counting coming dir m M (WriteSelectors (q + 1)) (small_three 7 (q + 1) 0 (omega arith) (omega arith) (omega arith))) a₁))

      -- a touched page of the directory goes to its other twin
      abbrev table_page : ℕ → Page
      table_page t = bytes_of (part dir (64 * t) 64)

      table_step : (t : ℕ) (phase : Phase) (m : List ℕ) → t < directory_pages P → Mem P phase regs header counting coming dir m
          → table_written P (Some t) m ≡ step_to (in_phase (WriteTable (t + 1)) m) (write (table_place P coming t) (table_page t))
      table_step t phase m l M =
          ap (λ z. step_to (in_phase (WriteTable (t + 1)) m) z) (ap₂ (λ x y. write (table_place P x t) (bytes_of y)) M.coming_in (dir_page P phase regs header counting coming dir m M t l))

      table_new : (t : ℕ) → t < directory_pages P → s'.table t ≡ part dir (64 * t) 64
      table_new t l = ap (λ b. pick b (part dir (64 * t) 64) (s.table t)) (lt-ltb t (directory_pages P) l)

      table_old : (t : ℕ) → directory_pages P ≤ t → s'.table t ≡ s.table t
      table_old t l = ap (λ b. pick b (part dir (64 * t) 64) (s.table t)) (le-ltb t (directory_pages P) l)

      table_same : (t : ℕ) → t < table_pages P → bit counting t ≡ bit coming t → s'.table t ≡ s.table t
      table_same t l e = by (dec_lt t (directory_pages P))
        where
          by : Dec (t < directory_pages P) → s'.table t ≡ s.table t
          by (yes h) = table_new t h ∙ sym (beside.clean t h e)
          by (no h) = table_old t (omega arith)

      -- before the first write, reading shows what was not touched
      at_first : (d : Device) → Working (Both (Kept P s) AnyBodies) d → Working WholePages d → AtWork (RightBefore 0) Nowhere d
      at_first d w g = record {
        commits = shown_less P s s' AnyBodies AnyBodies (λ t. Everywhere t × ((bit s.selectors t ≡ bit coming t) × (s'.table t ≡ s.table t))) Nowhere (RightBefore 0) Nowhere d
            (λ t l h. ⊎_elim (λ e. (tt, (ap (λ x. bit x t) (sym beside.counts) ∙ e, table_same t l e))) (λ b. absurd (omega arith)) h) (λ q l h. h)
            (turns P s s s' AnyBodies AnyBodies Everywhere Nowhere d (begins P s AnyBodies d w));
        wholes = g;
      }

      -- no touched page is left: the first selector page
      select_first : (j : ℕ) (m₀ m : List ℕ) (ev : Event) (d : Device) (phase : Phase) → own.step m₀ ev ≡ selectors_written P 0 m → Mem P phase regs header counting coming dir m
          → ((t : ℕ) → t < table_pages P → RightBefore j t) → AtWork (RightBefore j) Nowhere d → Goes (selector_pages P + 3) (world u d m₀) ev
      select_first j m₀ m ev d phase e M all a =
          let Q = selector_pages_some P in
          let R = selector_pages_most P high in
          let k : 1 + (selector_pages P - 1) ≡ selector_pages P = omega arith in
          works_more own Safe Then (suc (selector_pages P - 1 + 3)) (selector_pages P + 3) (omega arith) (select_one (selector_pages P - 1 + 3) 0 (omega arith) m₀ m ev d phase e M
          (record { commits = shown_less P s s' AnyBodies AnyBodies (RightBefore j) Nowhere Everywhere (λ r. r < 0) d (λ t l h. all t l) (λ q l h. omega arith) a.commits; wholes = a.wholes })
          (λ d₁ a₁. select (selector_pages P - 1) 1 k (in_phase (WriteSelectors 1) m) d₁ (to_phase P phase regs header counting coming dir m M (WriteSelectors 1) (small_three 7 1 0 (omega arith) (omega arith) (omega arith))) a₁))

      -- one touched page is written, and the rest goes on from there
      write_one : (i j t : ℕ) (m₀ m : List ℕ) (ev : Event) (d : Device) (phase : Phase) → own.step m₀ ev ≡ table_written P (Some t) m → Mem P phase regs header counting coming dir m
          → IsFirst counting coming j (directory_pages P) t → AtWork (RightBefore j) Nowhere d
          → ((m₁ : List ℕ) (d₁ : Device) → Mem P (WriteTable (t + 1)) regs header counting coming dir m₁ → AtWork (RightBefore (t + 1)) Nowhere d₁ → Goes i (world u d₁ m₁) next)
          → Goes (suc i) (world u d m₀) ev
      write_one i j t m₀ m ev d phase e M f a rest =
          let D = directory_pages_most P in
          let l = f.before_end in
          let lt : t < table_pages P = omega arith in
          let p = table_page t in
          let at = table_place P coming t in
          let long : length (part dir (64 * t) 64) ≡ 64 = length_part dir (64 * t) 64 (omega (arith, length_dir P phase regs header counting coming dir m M)) in
          let page_ok : a_page p ≡ true = page_of_words (part dir (64 * t) 64) long in
          go_writes i d m₀ (in_phase (WriteTable (t + 1)) m) ev at p
          (e ∙ table_step t phase m l M)
          (safe_working (RightBefore j) Nowhere d a)
          (and_from (ltb at (length d.pages)) (a_page p) (lt-ltb at (length d.pages) (subst (λ n. at < n) (sym (sized (RightBefore j) Nowhere d a)) (table_place_lt P coming t low lt))) page_ok)
          (rest (in_phase (WriteTable (t + 1)) m) (queued d at p)
          (to_phase P phase regs header counting coming dir m M (WriteTable (t + 1)) (small_three 6 (t + 1) 0 (omega arith) (omega arith) (omega arith)))
          (record {
            commits = shown_less P s s' AnyBodies AnyBodies (Also t (RightBefore j)) Nowhere (RightBefore (t + 1)) Nowhere (queued d at p)
                (λ v x h. further v (cases_eq v t) h) (λ q x h. h)
                (writes_table P s s' AnyBodies AnyBodies follows (RightBefore j) Nowhere d t p lt (λ g. f.differs (ap (λ x. bit x t) beside.counts ∙ sym g)) (ap bytes_of (sym (table_new t l))) a.commits);
            wholes = working_queued WholePages d at p a.wholes (whole_harmless at p page_ok);
          }))
        where
          before : (v : ℕ) → v ≢ t → v < t + 1 → Dec (v < j) → RightBefore j v
          before v g x (yes y) = inr y
          before v g x (no y) = inl (f.none_before v (omega arith) (omega arith))

          further : (v : ℕ) → (v ≡ t) ⊎ (v ≢ t) → RightBefore (t + 1) v → Also t (RightBefore j) v
          further v (inl g) h = inl g
          further v (inr g) (inl h) = inr (inl h)
          further v (inr g) (inr h) = inr (before v g h (dec_lt v j))

      commit_step : (i j : ℕ) → selector_pages P + 3 ≤ suc i → (m₀ m : List ℕ) (ev : Event) (d : Device) (phase : Phase) → own.step m₀ ev ≡ commit P j m → Mem P phase regs header counting coming dir m → AtWork (RightBefore j) Nowhere d
          → ((t : ℕ) → j ≤ t → t < directory_pages P → (m₁ : List ℕ) (d₁ : Device) → Mem P (WriteTable (t + 1)) regs header counting coming dir m₁ → AtWork (RightBefore (t + 1)) Nowhere d₁ → Goes i (world u d₁ m₁) next)
          → Goes (suc i) (world u d m₀) ev
      unfolding commit
      commit_step i j enough m₀ m ev d phase e M a rest = by (first_touched counting coming j (directory_pages P)) refl (first_touched_says counting coming j (directory_pages P))
        where
          is : own.step m₀ ev ≡ table_written P (first_touched counting coming j (directory_pages P)) m
          is = e ∙ ap₂ (λ x y. table_written P (first_touched x y j (directory_pages P)) m) M.counting_in M.coming_in

          all : Untouched counting coming j (directory_pages P) → (t : ℕ) → t < table_pages P → Dec (t < directory_pages P) → Dec (t < j) → RightBefore j t
          all n t l x (yes y) = inr y
          all n t l (yes x) (no y) = inl (n t (omega arith) x)
          all n t l (no x) (no y) = inl (beside.slots_clean t (omega arith) l)

          by : (o : Option ℕ) → first_touched counting coming j (directory_pages P) ≡ o → MatchOption o (Untouched counting coming j (directory_pages P)) (IsFirst counting coming j (directory_pages P)) → Goes (suc i) (world u d m₀) ev
          by None q n = works_more own Safe Then (selector_pages P + 3) (suc i) enough (select_first j m₀ m ev d phase (is ∙ ap (λ o. table_written P o m) q) M (λ t l. all n t l (dec_lt t (directory_pages P)) (dec_lt t j)) a)
          by (Some t) q f = write_one i j t m₀ m ev d phase (is ∙ ap (λ o. table_written P o m) q) M f a (λ m₁ d₁. rest t f.from_on f.before_end m₁ d₁)

      commits_from : (k j : ℕ) → directory_pages P ≤ j + k → (m₀ m : List ℕ) (ev : Event) (d : Device) (phase : Phase) → own.step m₀ ev ≡ commit P j m → Mem P phase regs header counting coming dir m
          → AtWork (RightBefore j) Nowhere d → Goes (k + selector_pages P + 3) (world u d m₀) ev
      unfolding next_told
      commits_from zero j b m₀ m ev d phase e M a = works_more own Safe Then (suc (selector_pages P + 2)) (0 + selector_pages P + 3) (omega arith) (commit_step (selector_pages P + 2) j (omega arith) m₀ m ev d phase e M a (λ t x y. absurd (omega arith)))
      commits_from (suc k) j b m₀ m ev d phase e M a = works_more own Safe Then (suc (k + selector_pages P + 3)) (suc k + selector_pages P + 3) (omega arith) (commit_step (k + selector_pages P + 3) j (omega arith) m₀ m ev d phase e M a
          (λ t x y m₁ d₁ M₁ a₁. commits_from k (t + 1) (omega arith) m₁ m₁ next d₁ (WriteTable (t + 1)) (on_next (WriteTable (t + 1)) header m₁ fits_old M₁) M₁ a₁))

      -- the whole commit: from the step that begins it to what comes after it
      pub commit_course : (m₀ m : List ℕ) (ev : Event) (d : Device) (phase : Phase) → own.step m₀ ev ≡ commit P 0 m → Mem P phase regs header counting coming dir m
          → Kept P s d.pages → WholePages d.pages → d.queue ≡ [] → Goes (directory_pages P + selector_pages P + 3) (world u d m₀) ev
      commit_course m₀ m ev d phase e M k g q =
          commits_from (directory_pages P) 0 (omega arith) m₀ m ev d phase e M (at_first d (working_still (Both (Kept P s) AnyBodies) d q (k, tt)) (working_still WholePages d q g))
