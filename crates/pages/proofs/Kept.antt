-- A write to a spare place harms nothing that is kept; which places are spare; and bodies and the rest do not harm one another.
use Rattle.std.proofs.Common.{◌≡◌, ℕ, ◌-◌, ◌<◌, ◌≤◌, ◌≢◌, List, take, sym, ap, ◌∙◌, arith}
use Rattle.model.specs.Device.{Page, set_page}
use Rattle.pages.specs.Bits.{bit}
use Rattle.pages.specs.Geometry.{table_pages, selector_pages, selector_place, table_place, body_place}
use Rattle.pages.specs.Store.{Image, Kept, area}
use Rattle.pages.specs.Commit.{Spare}
use Rattle.pages.proofs.Reading.{length_set_page, page_at_set_other}
use Rattle.pages.proofs.Geometry.{all_fits, selector_place_below, selector_place_same, selector_place_some, table_place_below, table_place_same, table_place_some, selector_table_apart}
use Rattle.pages.proofs.Harmless.{Harmless, place_harmless}

pub set_spare : (P : ℕ) (s : Image) (k : ℕ) (p : Page) (ps : List Page) → Spare P s k → Kept P s ps → Kept P s (set_page ps k p)
set_spare P s k p ps h c = record {
  sized = length_set_page ps k p ∙ c.sized;
  header_kept = ap (λ q. take 256 q) (page_at_set_other ps 0 k p (λ e. h.no_header (sym e))) ∙ c.header_kept;
  selectors_kept = λ v q l. page_at_set_other ps (selector_place P (area s) q) k p (λ e. h.no_selectors v q l (sym e)) ∙ c.selectors_kept v q l;
  table_kept = λ t l. page_at_set_other ps (table_place P s.selectors t) k p (λ e. h.no_table t l (sym e)) ∙ c.table_kept t l;
}

pub spare_harmless : (P : ℕ) (s : Image) (k : ℕ) (p : Page) → Spare P s k → Harmless (Kept P s) (record { at = k; page = p })
spare_harmless P s k p h = place_harmless (Kept P s) k p (λ ps q c. set_spare P s k q ps h c)

lt_ne : (j k : ℕ) → j < k → k ≢ j
lt_ne j k l e = omega arith

-- the table and the selector pages end where the bodies begin
pub table_below : (P : ℕ) (ws : List ℕ) (t : ℕ) → t < table_pages P → table_place P ws t < body_place P 0
table_below P ws t l = omega (arith, table_place_below P ws t l)

pub selectors_below : (P a q : ℕ) → a < 2 → q < selector_pages P → selector_place P a q < body_place P 0
selectors_below P a q k l = omega (arith, selector_place_below P a q k l)

-- the twin that an image's bits do not point at
pub twin_spare : (P : ℕ) (s : Image) (ws : List ℕ) (t : ℕ) → area s < 2 → bit ws t ≢ bit s.selectors t → Spare P s (table_place P ws t)
twin_spare P s ws t a n = record {
  no_header = table_place_some P ws t;
  no_selectors = λ v q l e. selector_table_apart P (area s) q ws t a l (sym e);
  no_table = λ u l e. let h = table_place_same P ws s.selectors t u e in n (h.1 ∙ ap (λ x. bit s.selectors x) (sym h.0));
}

-- the area of selector pages that does not count
pub area_spare : (P : ℕ) (s : Image) (a q : ℕ) → area s < 2 → a ≡ 1 - area s → q < selector_pages P → Spare P s (selector_place P a q)
area_spare P s a q k e l = record {
  no_header = selector_place_some P a q;
  no_selectors = λ v r m g. let h : a ≡ area s = (selector_place_same P a (area s) q r (omega arith) k l m g).0 in omega arith;
  no_table = λ t m. selector_table_apart P a q s.selectors t (omega arith) l;
}

-- the bodies
pub body_spare : (P : ℕ) (s : Image) (k : ℕ) → area s < 2 → body_place P 0 ≤ k → Spare P s k
body_spare P s k a l = record {
  no_header = λ e. omega arith;
  no_selectors = λ v q m. lt_ne (selector_place P (area s) q) k (omega (arith, selectors_below P (area s) q a m));
  no_table = λ t m. lt_ne (table_place P s.selectors t) k (omega (arith, table_below P s.selectors t m));
}

-- a property of the bodies: what is written before them does not harm it
abbrev pub OfBodies : ℕ → (List Page → Type 0) → Type 0
OfBodies P B = (ps : List Page) (k : ℕ) (p : Page) → k < body_place P 0 → B ps → B (set_page ps k p)

pub bodies_harmless : (P : ℕ) (B : List Page → Type 0) (k : ℕ) (p : Page) → OfBodies P B → k < body_place P 0 → Harmless B (record { at = k; page = p })
bodies_harmless P B k p f l = place_harmless B k p (λ ps q h. f ps k q l h)

-- the bodies begin on the device
pub bodies_begin : (P : ℕ) → 256 ≤ P → body_place P 0 ≤ P
bodies_begin P l = omega (arith, all_fits P l)
