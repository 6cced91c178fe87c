-- A commit cut off anywhere comes up as before or as after.
use Rattle.std.proofs.Common.{◌≡◌, ℕ, zero, suc, ◌+◌, ◌-◌, ◌*◌, ◌<◌, ◌≤◌, Bool, true, ◌≢◌, ◌⊎◌, List, [], ◌∷◌, ◌++◌, length, take, sym, refl, ap, ◌∙◌, subst, inl, inr, append_assoc, arith}
use Rattle.std.proofs.lemmas.List.{take_at, take_all, take-append-le, length-append}
use Rattle.std.proofs.lemmas.Bool.{cases_eq}
use Rattle.model.specs.Mail.{each}
use Rattle.model.specs.Device.{Device, Page, set_page, page_at, flushed, half, stopped}
use Rattle.model.specs.Run.{Act, read, write, flush, shows, send, done, refused, queued}
use Rattle.pages.specs.Words.{bytes_of, part}
use Rattle.pages.specs.Bits.{bit}
use Rattle.pages.specs.Geometry.{table_pages, selector_pages, selector_place, table_place, body_place}
use Rattle.pages.specs.Store.{Image, area}
use Rattle.pages.specs.Commit.{Spare, BodiesKept, Counts, after, after_all, HarmsNothing, Each, In, from, table_write, selector_write, change, Sound, CommitAtomic}
use Rattle.pages.proofs.Reading.{page_at_set_same, page_at_set_other}
use Rattle.pages.proofs.Harmless.{Harmless, Working, working_queued, working_flushed, working_still, working_stopped, working_read}
use Rattle.pages.proofs.Geometry.{table_body_apart, selector_body_apart}
use Rattle.pages.proofs.Kept.{OfBodies, set_spare, twin_spare, area_spare, bodies_begin}
use Rattle.pages.proofs.Commit.{Follows, Committing, Prepared, TableShown, Nowhere, Also, Untouched, untouched_shown, shown_less, writes_table, writes_selectors, first_flush, header_stopped, second_flush}

after_all_append : (xs ys : List Act) (d : Device) → after_all d (xs ++ ys) ≡ after_all (after_all d xs) ys
unfolding after_all
after_all_append [] ys d = refl
after_all_append (x ∷ xs) ys d = after_all_append xs ys (after d x)

each_append : {A : Type 0} (Φ : A → Type 0) (xs ys : List A) → Each Φ xs → Each Φ ys → Each Φ (xs ++ ys)
each_append Φ [] ys h k = k
each_append Φ (x ∷ xs) ys h k = (h.0, each_append Φ xs ys h.1 k)

each_take : {A : Type 0} (Φ : A → Type 0) (n : ℕ) (xs : List A) → Each Φ xs → Each Φ (take n xs)
each_take Φ zero xs h = tt
each_take Φ (suc n) [] h = tt
each_take Φ (suc n) (x ∷ xs) h = (h.0, each_take Φ n xs h.1)

-- what holds of each of some numbers holds of each act made from them
each_made : (Φ : ℕ → Type 0) (Ψ : Act → Type 0) (f : ℕ → Act) → ((t : ℕ) → Φ t → Ψ (f t)) → (ts : List ℕ) → Each Φ ts → Each Ψ (each f ts)
each_made Φ Ψ f g [] h = tt
each_made Φ Ψ f g (t ∷ ts) h = (g t h.0, each_made Φ Ψ f g ts h.1)

in_from : (n a q : ℕ) → a ≤ q → q < a + n → In q (from a n)
unfolding from
in_from zero a q l m = absurd (omega arith)
in_from (suc n) a q l m = elim (cases_eq q a) [ inl e ↦ inl e | inr e ↦ inr (in_from n (suc a) q (omega arith) (omega arith)) ]

each_from : (n a m : ℕ) → a + n ≤ m → Each (λ q. q < m) (from a n)
unfolding from
each_from zero a m l = tt
each_from (suc n) a m l = (omega arith, each_from n (suc a) m (omega arith))

-- bodies stay as they are where a write goes to a place before them
of_bodies : (P : ℕ) (good : ℕ → Page → Bool) → OfBodies P (BodiesKept P good)
of_bodies P good ps k p l h b m = ap (good b) (page_at_set_other ps (body_place P b) k p (λ e. omega arith)) ∙ h b m

module _ (P : ℕ) (s : Image) (good : ℕ → Page → Bool) where
  -- one page more: spare, and good if it is a body
  set_counts : (k : ℕ) (p : Page) (ps : List Page) → Spare P s k → ((b : ℕ) → k ≡ body_place P b → good b (page_at ps k) ≡ true → good b p ≡ true) →
      Counts P s good ps → Counts P s good (set_page ps k p)
  set_counts k p ps h g c = (
    set_spare P s k p ps h c.0,
    λ b l.
        elim (cases_eq (body_place P b) k) [
          | inl e ↦ here b l e
          | inr n ↦ ap (good b) (page_at_set_other ps (body_place P b) k p n) ∙ c.1 b l
        ],
  )
    where
      here : (b : ℕ) → body_place P b < P → body_place P b ≡ k → good b (page_at (set_page ps k p) (body_place P b)) ≡ true
      here b l e =
          subst (λ x. good b (page_at (set_page ps k p) x) ≡ true) (sym e)
          (ap (good b) (page_at_set_same ps k p (omega (arith, c.0.sized))) ∙ g b (sym e) (subst (λ x. good b (page_at ps x) ≡ true) e (c.1 b l)))

  harms_nothing : (k : ℕ) (p : Page) → HarmsNothing P s good (write k p) → Harmless (Counts P s good) (record { at = k; page = p })
  harms_nothing k p h ps c = (
    set_counts k p ps h.0 (λ b e g. (h.1 b e (page_at ps k) g).0) c,
    set_counts k (half p (page_at ps k)) ps h.0 (λ b e g. (h.1 b e (page_at ps k) g).1) c,
  )

  working_after : (d : Device) (a : Act) → HarmsNothing P s good a → Working (Counts P s good) d → Working (Counts P s good) (after d a)
  unfolding after
  working_after d (read k) h w = w
  working_after d (write k p) h w = working_queued (Counts P s good) d k p w (harms_nothing k p h)
  working_after d flush h w = working_flushed (Counts P s good) d w
  working_after d (shows r) h w = w
  working_after d (send c l) h w = w
  working_after d done h w = w
  working_after d (refused r) h w = w

  working_after_all : (acts : List Act) (d : Device) → Each (HarmsNothing P s good) acts → Working (Counts P s good) d → Working (Counts P s good) (after_all d acts)
  unfolding after_all
  working_after_all [] d h w = w
  working_after_all (a ∷ acts) d h w = working_after_all acts (after d a) h.1 (working_after d a h.0 w)

regroup : (t : ℕ) (ts : List ℕ) (shown : ℕ → Type 0) (u : ℕ) → In u (t ∷ ts) ⊎ shown u → In u ts ⊎ Also t shown u
regroup t ts shown u (inl (inl e)) = inr (inl e)
regroup t ts shown u (inl (inr i)) = inl i
regroup t ts shown u (inr g) = inr (inr g)

module _ (P : ℕ) (s s' : Image) (B B' : List Page → Type 0) (f : Follows P s s' B B') where
  -- all touched table pages one after another
  pub writes_tables : (selectors : ℕ → Type 0) (ts : List ℕ) (tables : ℕ → Type 0) (d : Device) →
      Each (λ t. (t < table_pages P) × (bit s'.selectors t ≢ bit s.selectors t)) ts → Committing P s s' B B' tables selectors d →
      Committing P s s' B B' (λ t. In t ts ⊎ tables t) selectors (after_all d (each (table_write P s') ts))
  unfolding after after_all
  writes_tables selectors [] tables d h c = shown_less P s s' B B' tables selectors (λ t. ⊥ ⊎ tables t) selectors d (λ t l i. elim i [ inl n ↦ absurd n | inr g ↦ g ]) (λ q l g. g) c
  writes_tables selectors (t ∷ ts) tables d h c =
      shown_less P s s' B B' (λ u. In u ts ⊎ Also t tables u) selectors (λ u. In u (t ∷ ts) ⊎ tables u) selectors
      (after_all (queued d (table_place P s'.selectors t) (bytes_of (s'.table t))) (each (table_write P s') ts)) (λ u l i. regroup t ts tables u i) (λ q l g. g)
      (writes_tables selectors ts (Also t tables) (queued d (table_place P s'.selectors t) (bytes_of (s'.table t))) h.1
      (writes_table P s s' B B' f tables selectors d t (bytes_of (s'.table t)) h.0.0 h.0.1 refl c))

  -- and the selector pages
  pub writes_all_selectors : (tables : ℕ → Type 0) (qs : List ℕ) (selectors : ℕ → Type 0) (d : Device) → Each (λ q. q < selector_pages P) qs →
      Committing P s s' B B' tables selectors d → Committing P s s' B B' tables (λ q. In q qs ⊎ selectors q) (after_all d (each (selector_write P s') qs))
  unfolding after after_all
  writes_all_selectors tables [] selectors d h c = shown_less P s s' B B' tables selectors tables (λ q. ⊥ ⊎ selectors q) d (λ t l g. g) (λ q l i. elim i [ inl n ↦ absurd n | inr g ↦ g ]) c
  writes_all_selectors tables (q ∷ qs) selectors d h c =
      shown_less P s s' B B' tables (λ r. In r qs ⊎ Also q selectors r) tables (λ r. In r (q ∷ qs) ⊎ selectors r)
      (after_all (queued d (selector_place P (area s') q) (bytes_of (part s'.selectors (64 * q) 64))) (each (selector_write P s') qs)) (λ t l g. g) (λ r l i. regroup q qs selectors r i)
      (writes_all_selectors tables qs (Also q selectors) (queued d (selector_place P (area s') q) (bytes_of (part s'.selectors (64 * q) 64))) h.1
      (writes_selectors P s s' B B' f tables selectors d q (bytes_of (part s'.selectors (64 * q) 64)) h.0 refl c))

-- the device after some acts of a list that is cut off behind them
cut_behind : (xs ys zs : List Act) (n : ℕ) (d : Device) → length (xs ++ ys) ≡ n → after_all d (take n (xs ++ (ys ++ zs))) ≡ after_all (after_all d xs) ys
cut_behind xs ys zs n d e =
    ap (λ l. after_all d (take n l)) (sym (append_assoc xs ys zs)) ∙ (ap (after_all d) (take_at (xs ++ ys) zs n e) ∙ after_all_append xs ys d)

module _ (P : ℕ) (s s' : Image) (good good' : ℕ → Page → Bool) (d : Device) (before : List Act) (ts : List ℕ) (header : Page) (c : Sound P s s' good good' d before ts header) where
  follows : Follows P s s' (BodiesKept P good) (BodiesKept P good')
  follows = record {
    room = bodies_begin P c.size;
    old_area = c.old_area;
    new_area = c.new_area;
    old_bodies = of_bodies P good;
    new_bodies = of_bodies P good';
  }

  writes : List Act
  writes = before ++ each (table_write P s') ts ++ each (selector_write P s') (from 0 (selector_pages P))

  -- all that is written before the header harms nothing
  writes_harmless : Each (HarmsNothing P s good) writes
  unfolding writes
  writes_harmless =
      each_append (HarmsNothing P s good) (before ++ each (table_write P s') ts) (each (selector_write P s') (from 0 (selector_pages P)))
      (each_append (HarmsNothing P s good) before (each (table_write P s') ts) c.harmless
      (each_made (λ t. (t < table_pages P) × (bit s'.selectors t ≢ bit s.selectors t)) (HarmsNothing P s good) (table_write P s')
      (λ t h. (twin_spare P s s'.selectors t c.old_area h.1, λ b e. absurd (table_body_apart P s'.selectors t b h.0 e))) ts c.turned))
      (each_made (λ q. q < selector_pages P) (HarmsNothing P s good) (selector_write P s')
      (λ q h. (area_spare P s (area s') q c.old_area c.new_area h, λ b e. absurd (selector_body_apart P (area s') q b (omega (arith, c.old_area, c.new_area)) h e)))
      (from 0 (selector_pages P)) (each_from (selector_pages P) 0 (selector_pages P) (omega arith)))

  starts : Working (Counts P s good) d
  starts = working_still (Counts P s good) d c.still c.counts

  prepared : Prepared P s s' (BodiesKept P good) (BodiesKept P good') (flushed (after_all d writes))
  unfolding writes
  prepared =
      subst (λ x. Prepared P s s' (BodiesKept P good) (BodiesKept P good') (flushed x)) (sym in_turn)
      (first_flush P s s' (BodiesKept P good) (BodiesKept P good') tables selectors end (λ t l. c.table_shown t l) (λ q l. inl (in_from (selector_pages P) 0 q (omega arith) (omega arith)))
      (writes_all_selectors P s s' (BodiesKept P good) (BodiesKept P good') follows tables (from 0 (selector_pages P)) Nowhere (after_all begun (each (table_write P s') ts))
      (each_from (selector_pages P) 0 (selector_pages P) (omega arith))
      (writes_tables P s s' (BodiesKept P good) (BodiesKept P good') follows Nowhere ts (TableShown P s' begun) begun c.turned (record {
        working = working_after_all P s good before d c.harmless starts;
        tables_shown = λ t l h. h;
        selectors_shown = λ q l n. absurd n;
        bodies_shown = c.bodies_shown;
      }))))
    where
      begun : Device
      begun = after_all d before

      end : Device
      end = after_all (after_all begun (each (table_write P s') ts)) (each (selector_write P s') (from 0 (selector_pages P)))

      tables : ℕ → Type 0
      tables t = In t ts ⊎ TableShown P s' begun t

      selectors : ℕ → Type 0
      selectors q = In q (from 0 (selector_pages P)) ⊎ Nowhere q

      in_turn : after_all d writes ≡ end
      in_turn =
          after_all_append (before ++ each (table_write P s') ts) (each (selector_write P s') (from 0 (selector_pages P))) d
          ∙ ap (λ x. after_all x (each (selector_write P s') (from 0 (selector_pages P)))) (after_all_append before (each (table_write P s') ts) d)

  -- up to the first flush only what harms nothing has been done
  early : (n : ℕ) (cs : List ℕ) → n + 2 ≤ length (change P s' before ts header) → Counts P s good (stopped (after_all d (take n (change P s' before ts header))) cs).pages
  unfolding writes
  early n cs l =
      subst (λ xs. Counts P s good (stopped (after_all d xs) cs).pages) (sym (ap (take n) (sym (append_assoc writes (flush ∷ []) (write 0 header ∷ flush ∷ []))) ∙ take-append-le n (writes ++ flush ∷ []) (write 0 header ∷ flush ∷ []) short))
      (working_stopped (Counts P s good) (after_all d (take n (writes ++ flush ∷ [])))
      (working_after_all P s good (take n (writes ++ flush ∷ [])) d
      (each_take (HarmsNothing P s good) n (writes ++ flush ∷ []) (each_append (HarmsNothing P s good) writes (flush ∷ []) writes_harmless (tt, tt))) starts) cs)
    where
      short : n ≤ length (writes ++ flush ∷ [])
      short = omega (arith, l, length-append writes (flush ∷ []), length-append writes (flush ∷ write 0 header ∷ flush ∷ []))

  between : (n : ℕ) (cs : List ℕ) → n + 1 ≡ length (change P s' before ts header) →
      Counts P s good (stopped (after_all d (take n (change P s' before ts header))) cs).pages ⊎ Counts P s' good' (stopped (after_all d (take n (change P s' before ts header))) cs).pages
  unfolding writes after after_all
  between n cs e =
      subst (λ x. Counts P s good (stopped x cs).pages ⊎ Counts P s' good' (stopped x cs).pages) (sym (cut_behind writes (flush ∷ write 0 header ∷ []) (flush ∷ []) n d long))
      (header_stopped P s s' (BodiesKept P good) (BodiesKept P good') follows (flushed (after_all d writes)) prepared header c.header_right c.header_long cs)
    where
      long : length (writes ++ flush ∷ write 0 header ∷ []) ≡ n
      long = omega (arith, e, length-append writes (flush ∷ write 0 header ∷ []), length-append writes (flush ∷ write 0 header ∷ flush ∷ []))

  late : (n : ℕ) (cs : List ℕ) → length (change P s' before ts header) ≤ n → Counts P s' good' (stopped (after_all d (take n (change P s' before ts header))) cs).pages
  unfolding writes after after_all
  late n cs l =
      subst (λ x. Counts P s' good' (stopped x cs).pages)
      (sym (ap (after_all d) (take_all n (writes ++ flush ∷ write 0 header ∷ flush ∷ []) l) ∙ after_all_append writes (flush ∷ write 0 header ∷ flush ∷ []) d))
      (working_stopped (Counts P s' good') (flushed (queued (flushed (after_all d writes)) 0 header))
      (second_flush P s s' (BodiesKept P good) (BodiesKept P good') follows (flushed (after_all d writes)) prepared header c.header_right) cs)

pub commit_atomic : CommitAtomic
unfolding CommitAtomic
commit_atomic P s s' good good' d before ts header c n cs = record {
  early = early P s s' good good' d before ts header c n cs;
  between = between P s s' good good' d before ts header c n cs;
  late = late P s s' good good' d before ts header c n cs;
}

-- From rest, with nothing written before, it is enough that the commit writes each table page that changes.
pub rest_sound : (P : ℕ) (s s' : Image) (good : ℕ → Page → Bool) (d : Device) (ts : List ℕ) (header : Page) → 256 ≤ P → area s < 2 → area s' ≡ 1 - area s → Counts P s good d.pages → d.queue ≡ [] →
    Each (λ t. (t < table_pages P) × (bit s'.selectors t ≢ bit s.selectors t)) ts → ((t : ℕ) → t < table_pages P → In t ts ⊎ Untouched s s' t) →
    take 256 header ≡ bytes_of s'.header → 256 ≤ length header → Sound P s s' good good d [] ts header
unfolding after_all
rest_sound P s s' good d ts header l a b c e h g k m = record {
  size = l;
  old_area = a;
  new_area = b;
  counts = c;
  still = e;
  harmless = tt;
  turned = h;
  table_shown = λ t n. elim (g t n) [ inl i ↦ inl i | inr u ↦ inr (untouched_shown P s s' (BodiesKept P good) d t still n u) ];
  bodies_shown = (working_read (Counts P s good) d still).1;
  header_right = k;
  header_long = m;
}
  where
    still : Working (Counts P s good) d
    still = working_still (Counts P s good) d e c
