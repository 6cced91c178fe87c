-- A commit, act by act: how far reading already shows the new image while the old one counts, and what the header then decides.
use Rattle.std.proofs.Common.{◌≡◌, ℕ, ◌-◌, ◌*◌, ◌<◌, ◌≤◌, eqb, ◌≢◌, ◌⊎◌, List, [], ◌∷◌, ◌++◌, length, take, drop, sym, refl, ap, ◌∙◌, subst, inl, inr, arith}
use Rattle.std.proofs.lemmas.List.{take_at, length-take-le}
use Rattle.std.proofs.lemmas.Bool.{cases_eq}
use Rattle.model.specs.Mail.{pick}
use Rattle.model.specs.Device.{Device, Page, Write, set_page, page_at, all_written, read_page, flushed, half, left, stopped}
use Rattle.model.specs.Run.{queued}
use Rattle.pages.specs.Words.{bytes_of, part}
use Rattle.pages.specs.Bits.{bit}
use Rattle.pages.specs.Geometry.{table_pages, selector_pages, selector_place, table_place, body_place}
use Rattle.pages.specs.Store.{Image, Kept, TableKept, SelectorsKept, area}
use Rattle.pages.specs.Commit.{Spare}
use Rattle.pages.proofs.Reading.{length_set_page, page_at_set_same, page_at_set_other, written_queued, read_queued_same, read_queued_other}
use Rattle.pages.proofs.Geometry.{selector_place_same, selector_place_some, table_place_some, table_place_apart, table_place_bits, selector_table_apart}
use Rattle.model.proofs.Places.{pick_both}
use Rattle.pages.proofs.Harmless.{Harmless, Both, both_harmless, Working, working_queued, working_flushed, working_still, working_read}
use Rattle.pages.proofs.Kept.{OfBodies, spare_harmless, bodies_harmless, twin_spare, area_spare, body_spare, table_below, selectors_below}

-- what reading shows of an image
abbrev pub TableShown : ℕ → Image → Device → ℕ → Type 0
TableShown P s d t = read_page d (table_place P s.selectors t) ≡ bytes_of (s.table t)

abbrev pub SelectorsShown : ℕ → Image → Device → ℕ → Type 0
SelectorsShown P s d q = read_page d (selector_place P (area s) q) ≡ bytes_of (part s.selectors (64 * q) 64)

-- one image may follow another: the other selector area counts, and bodies lie behind the rest
pub record Follows (P : ℕ) (s s' : Image) (B B' : List Page → Type 0) : Type 0 where
  pub room : body_place P 0 ≤ P
  pub old_area : area s < 2
  pub new_area : area s' ≡ 1 - area s
  pub old_bodies : OfBodies P B
  pub new_bodies : OfBodies P B'

-- On the way from s to s': s counts and nothing that waits harms it, and reading shows some table pages and selector pages of s', and its bodies.
pub record Committing (P : ℕ) (s s' : Image) (B B' : List Page → Type 0) (tables selectors : ℕ → Type 0) (d : Device) : Type 0 where
  pub working : Working (Both (Kept P s) B) d
  pub tables_shown : (t : ℕ) → t < table_pages P → tables t → TableShown P s' d t
  pub selectors_shown : (q : ℕ) → q < selector_pages P → selectors q → SelectorsShown P s' d q
  pub bodies_shown : B' (flushed d).pages

-- which pages are shown: all, none, and one more
abbrev pub Everywhere : ℕ → Type 0
Everywhere t = Unit {0}

abbrev pub Nowhere : ℕ → Type 0
Nowhere t = ⊥

abbrev pub Also : ℕ → (ℕ → Type 0) → ℕ → Type 0
Also t shown u = (u ≡ t) ⊎ shown u

-- of a table page nothing changes
abbrev pub Untouched : Image → Image → ℕ → Type 0
Untouched s s' t = (bit s.selectors t ≡ bit s'.selectors t) × (s'.table t ≡ s.table t)

pub begins : (P : ℕ) (s : Image) (B : List Page → Type 0) (d : Device) → Working (Both (Kept P s) B) d → Committing P s s B B Everywhere Nowhere d
begins P s B d w = record {
  working = w;
  tables_shown = λ t l u. (working_read (Both (Kept P s) B) d w).0.table_kept t l;
  selectors_shown = λ q l n. absurd n;
  bodies_shown = (working_read (Both (Kept P s) B) d w).1;
}

-- another image is to come: shown of it are the pages that it shares with the one before
pub turns : (P : ℕ) (s s' s'' : Image) (B B' : List Page → Type 0) (tables selectors : ℕ → Type 0) (d : Device) → Committing P s s' B B' tables selectors d →
    Committing P s s'' B B' (λ t. tables t × Untouched s' s'' t) Nowhere d
turns P s s' s'' B B' tables selectors d c = record {
  working = c.working;
  tables_shown = λ t l h. ap (read_page d) (sym (table_place_bits P s'.selectors s''.selectors t h.1.0)) ∙ (c.tables_shown t l h.0 ∙ ap bytes_of (sym h.1.1));
  selectors_shown = λ q l n. absurd n;
  bodies_shown = c.bodies_shown;
}

pub shown_less : (P : ℕ) (s s' : Image) (B B' : List Page → Type 0) (tables selectors tables₂ selectors₂ : ℕ → Type 0) (d : Device) →
    ((t : ℕ) → t < table_pages P → tables₂ t → tables t) → ((q : ℕ) → q < selector_pages P → selectors₂ q → selectors q) →
    Committing P s s' B B' tables selectors d → Committing P s s' B B' tables₂ selectors₂ d
shown_less P s s' B B' tables selectors tables₂ selectors₂ d f g c = record {
  working = c.working;
  tables_shown = λ t l h. c.tables_shown t l (f t l h);
  selectors_shown = λ q l h. c.selectors_shown q l (g q l h);
  bodies_shown = c.bodies_shown;
}

apart : (j m k : ℕ) → j < m → m ≤ k → j ≢ k
apart j m k a b e = omega arith

within : (k m n P : ℕ) → k < m → m ≤ P → n ≡ P → k < n
within k m n P a b e = omega arith

module _ (P : ℕ) (s s' : Image) (B B' : List Page → Type 0) (f : Follows P s s' B B') (tables selectors : ℕ → Type 0) (d : Device) where
  in_range : Committing P s s' B B' tables selectors d → (k : ℕ) → k < body_place P 0 → k < length d.pages
  in_range c k l = within k (body_place P 0) (length d.pages) P l f.room c.working.counts.0.sized

  -- a spare place before the bodies may be written
  spare_queued : (k : ℕ) (p : Page) → Spare P s k → k < body_place P 0 → Working (Both (Kept P s) B) d → Working (Both (Kept P s) B) (queued d k p)
  spare_queued k p h l w =
      working_queued (Both (Kept P s) B) d k p w
      (both_harmless (Kept P s) B (record { at = k; page = p }) (spare_harmless P s k p h) (bodies_harmless P B k p f.old_bodies l))

  bodies_queued : (k : ℕ) (p : Page) → k < body_place P 0 → B' (flushed d).pages → B' (flushed (queued d k p)).pages
  bodies_queued k p l b = subst B' (sym (written_queued d k p)) (f.new_bodies (flushed d).pages k p l b)

  -- a touched table page goes to the twin that does not count
  pub writes_table : (t : ℕ) (p : Page) → t < table_pages P → bit s'.selectors t ≢ bit s.selectors t → p ≡ bytes_of (s'.table t) →
      Committing P s s' B B' tables selectors d → Committing P s s' B B' (Also t tables) selectors (queued d (table_place P s'.selectors t) p)
  writes_table t p l n e c = record {
    working = spare_queued place p (twin_spare P s s'.selectors t f.old_area n) (table_below P s'.selectors t l) c.working;
    tables_shown = λ u m h. elim (cases_eq u t) [ inl g ↦ subst (λ x. TableShown P s' (queued d place p) x) (sym g) here | inr g ↦ there u g m h ];
    selectors_shown = λ q m h.
        read_queued_other d (selector_place P (area s') q) place p (selector_table_apart P (area s') q s'.selectors t (omega (arith, f.new_area)) m) ∙ c.selectors_shown q m h;
    bodies_shown = bodies_queued place p (table_below P s'.selectors t l) c.bodies_shown;
  }
    where
      place : ℕ
      place = table_place P s'.selectors t

      here : TableShown P s' (queued d place p) t
      here = read_queued_same d place p (in_range c place (table_below P s'.selectors t l)) ∙ e

      there : (u : ℕ) → u ≢ t → u < table_pages P → Also t tables u → TableShown P s' (queued d place p) u
      there u g m (inl h) = absurd (g h)
      there u g m (inr h) =
          read_queued_other d (table_place P s'.selectors u) place p (table_place_apart P s'.selectors s'.selectors u t g) ∙ c.tables_shown u m h

  -- a selector page goes to the area that does not count
  pub writes_selectors : (q : ℕ) (p : Page) → q < selector_pages P → p ≡ bytes_of (part s'.selectors (64 * q) 64) →
      Committing P s s' B B' tables selectors d → Committing P s s' B B' tables (Also q selectors) (queued d (selector_place P (area s') q) p)
  writes_selectors q p l e c = record {
    working = spare_queued place p (area_spare P s (area s') q f.old_area f.new_area l) below c.working;
    tables_shown = λ t m h. read_queued_other d (table_place P s'.selectors t) place p (λ g. selector_table_apart P (area s') q s'.selectors t small l (sym g)) ∙ c.tables_shown t m h;
    selectors_shown = λ r m h. elim (cases_eq r q) [ inl g ↦ subst (λ x. SelectorsShown P s' (queued d place p) x) (sym g) here | inr g ↦ there r g m h ];
    bodies_shown = bodies_queued place p below c.bodies_shown;
  }
    where
      small : area s' < 2
      small = omega (arith, f.new_area)

      place : ℕ
      place = selector_place P (area s') q

      below : place < body_place P 0
      below = selectors_below P (area s') q small l

      here : SelectorsShown P s' (queued d place p) q
      here = read_queued_same d place p (in_range c place below) ∙ e

      there : (r : ℕ) → r ≢ q → r < selector_pages P → Also q selectors r → SelectorsShown P s' (queued d place p) r
      there r g m (inl h) = absurd (g h)
      there r g m (inr h) = read_queued_other d (selector_place P (area s') r) place p (λ a. g (selector_place_same P (area s') (area s') r q small small m l a).1) ∙ c.selectors_shown r m h

  -- a body is written that harms no body that counts; what the bodies are to be may change with it
  pub writes_body : (k : ℕ) (p : Page) (B'' : List Page → Type 0) → body_place P 0 ≤ k → Harmless B (record { at = k; page = p }) → B'' (set_page (flushed d).pages k p) →
      Committing P s s' B B' tables selectors d → Committing P s s' B B'' tables selectors (queued d k p)
  writes_body k p B'' l h b c = record {
    working = working_queued (Both (Kept P s) B) d k p c.working (both_harmless (Kept P s) B (record { at = k; page = p }) (spare_harmless P s k p (body_spare P s k f.old_area l)) h);
    tables_shown = λ t m g. read_queued_other d (table_place P s'.selectors t) k p (before (table_place P s'.selectors t) (table_below P s'.selectors t m)) ∙ c.tables_shown t m g;
    selectors_shown = λ q m g.
        read_queued_other d (selector_place P (area s') q) k p (before (selector_place P (area s') q) (selectors_below P (area s') q (omega (arith, f.new_area)) m)) ∙ c.selectors_shown q m g;
    bodies_shown = subst B'' (sym (written_queued d k p)) b;
  }
    where
      before : (j : ℕ) → j < body_place P 0 → j ≢ k
      before j m e = apart j (body_place P 0) k m l e

  -- a flush changes nothing of what counts or of what reading shows
  pub flushes : Committing P s s' B B' tables selectors d → Committing P s s' B B' tables selectors (flushed d)
  unfolding all_written
  flushes c = record {
    working = working_flushed (Both (Kept P s) B) d c.working;
    tables_shown = c.tables_shown;
    selectors_shown = c.selectors_shown;
    bodies_shown = c.bodies_shown;
  }

-- A table page becomes another, and is written at once: s'' is s' with another page t, whose bit is turned away from the one that counts.
pub replaces_table : (P : ℕ) (s s' s'' : Image) (B B' : List Page → Type 0) → Follows P s s'' B B' → (tables selectors : ℕ → Type 0) (d : Device) (t : ℕ) (p : Page) →
    t < table_pages P → bit s''.selectors t ≢ bit s.selectors t → p ≡ bytes_of (s''.table t) → ((u : ℕ) → u < table_pages P → u ≢ t → Untouched s' s'' u) →
    Committing P s s' B B' tables selectors d → Committing P s s'' B B' (Also t tables) Nowhere (queued d (table_place P s''.selectors t) p)
replaces_table P s s' s'' B B' f tables selectors d t p l n e same c =
    shown_less P s s'' B B' (Also t shared) Nowhere (Also t tables) Nowhere (queued d (table_place P s''.selectors t) p) (λ u m i. also u m i) (λ q m g. g)
    (writes_table P s s'' B B' f shared Nowhere d t p l n e (turns P s s' s'' B B' tables selectors d c))
  where
    shared : ℕ → Type 0
    shared u = tables u × Untouched s' s'' u

    also : (u : ℕ) → u < table_pages P → Also t tables u → Also t shared u
    also u m (inl g) = inl g
    also u m (inr h) = elim (cases_eq u t) [ inl g ↦ inl g | inr g ↦ inr (h, same u m g) ]

-- A table page becomes another in memory, and is to be written when the commit comes.
pub changes_table : (P : ℕ) (s s' s'' : Image) (B B' : List Page → Type 0) (tables selectors : ℕ → Type 0) (d : Device) (t : ℕ) →
    ((u : ℕ) → u < table_pages P → u ≢ t → Untouched s' s'' u) → Committing P s s' B B' tables selectors d → Committing P s s'' B B' (λ u. (u ≢ t) × tables u) Nowhere d
changes_table P s s' s'' B B' tables selectors d t same c =
    shown_less P s s'' B B' (λ u. tables u × Untouched s' s'' u) Nowhere (λ u. (u ≢ t) × tables u) Nowhere d (λ u m h. (h.1, same u m h.0)) (λ q m g. g)
    (turns P s s' s'' B B' tables selectors d c)

-- whatever waits, reading shows at their new places the table pages of which nothing changes
pub untouched_shown : (P : ℕ) (s s' : Image) (B : List Page → Type 0) (d : Device) (t : ℕ) → Working (Both (Kept P s) B) d → t < table_pages P → Untouched s s' t → TableShown P s' d t
untouched_shown P s s' B d t w l h = (turns P s s s' B B Everywhere Nowhere d (begins P s B d w)).tables_shown t l (tt, h)

-- The new image stands beside the old one, which still counts; nothing waits, and only the header is left to write.
pub record Prepared (P : ℕ) (s s' : Image) (B B' : List Page → Type 0) (d : Device) : Type 0 where
  pub old : Both (Kept P s) B d.pages
  pub new_table : TableKept P s' (page_at d.pages)
  pub new_selectors : SelectorsKept P s' (area s') (page_at d.pages)
  pub new_bodies : B' d.pages
  pub still : d.queue ≡ []

pub first_flush : (P : ℕ) (s s' : Image) (B B' : List Page → Type 0) (tables selectors : ℕ → Type 0) (d : Device) → ((t : ℕ) → t < table_pages P → tables t) →
    ((q : ℕ) → q < selector_pages P → selectors q) → Committing P s s' B B' tables selectors d → Prepared P s s' B B' (flushed d)
first_flush P s s' B B' tables selectors d f g c = record {
  old = working_read (Both (Kept P s) B) d c.working;
  new_table = λ t l. c.tables_shown t l (f t l);
  new_selectors = λ q l. c.selectors_shown q l (g q l);
  new_bodies = c.bodies_shown;
  still = refl;
}

-- only the first half of page 0 means anything, so half a header is a whole one
pub take_half : (p q : Page) → 256 ≤ length p → take 256 (half p q) ≡ take 256 p
unfolding half
take_half p q l = take_at (take 256 p) (drop 256 q) 256 (length-take-le 256 p l)

-- one write that waits alone: nothing of it, all of it, or half
pub left_one : (Φ : List Page → Type 0) (ps : List Page) (w : Write) (cs : List ℕ) →
    Φ ps → Φ (set_page ps w.at w.page) → Φ (set_page ps w.at (half w.page (page_at ps w.at))) → Φ (left ps (w ∷ []) cs)
unfolding left
left_one Φ ps w [] a b c = a
left_one Φ ps w (x ∷ cs) a b c =
    pick_both Φ (eqb x 1) (set_page ps w.at w.page) (pick (eqb x 2) (set_page ps w.at (half w.page (page_at ps w.at))) ps) b
    (pick_both Φ (eqb x 2) (set_page ps w.at (half w.page (page_at ps w.at))) ps c a)

module _ (P : ℕ) (s s' : Image) (B B' : List Page → Type 0) (f : Follows P s s' B B') (d : Device) (r : Prepared P s s' B B' d) where
  pub header_set : (p : Page) → take 256 p ≡ bytes_of s'.header → Both (Kept P s') B' (set_page d.pages 0 p)
  header_set p e = (
    record {
      sized = length_set_page d.pages 0 p ∙ r.old.0.sized;
      header_kept = ap (λ x. take 256 x) (page_at_set_same d.pages 0 p (within 0 (body_place P 0) (length d.pages) P (omega arith) f.room r.old.0.sized)) ∙ e;
      selectors_kept = λ v q l. page_at_set_other d.pages (selector_place P (area s') q) 0 p (selector_place_some P (area s') q) ∙ r.new_selectors q l;
      table_kept = λ t l. page_at_set_other d.pages (table_place P s'.selectors t) 0 p (table_place_some P s'.selectors t) ∙ r.new_table t l;
    },
    f.new_bodies d.pages 0 p (omega arith) r.new_bodies,
  )

  -- while the header waits a stop leaves the old image or the new one
  pub header_stopped : (p : Page) → take 256 p ≡ bytes_of s'.header → 256 ≤ length p → (cs : List ℕ) →
      Both (Kept P s) B (stopped (queued d 0 p) cs).pages ⊎ Both (Kept P s') B' (stopped (queued d 0 p) cs).pages
  header_stopped p e l cs =
      subst (λ ws. Either (left d.pages (ws ++ record { at = 0; page = p } ∷ []) cs)) (sym r.still)
      (left_one Either d.pages (record { at = 0; page = p }) cs (inl r.old) (inr (header_set p e))
      (inr (header_set (half p (page_at d.pages 0)) (take_half p (page_at d.pages 0) l ∙ e))))
    where
      Either : List Page → Type 0
      Either ps = Both (Kept P s) B ps ⊎ Both (Kept P s') B' ps

  -- after the second flush the new image counts, and nothing waits
  pub second_flush : (p : Page) → take 256 p ≡ bytes_of s'.header → Working (Both (Kept P s') B') (flushed (queued d 0 p))
  unfolding all_written
  second_flush p e =
      working_still (Both (Kept P s') B') (flushed (queued d 0 p)) refl
      (subst (Both (Kept P s') B') (sym (written_queued d 0 p))
      (subst (λ ws. Both (Kept P s') B' (set_page (all_written d.pages ws) 0 p)) (sym r.still) (header_set p e)))
