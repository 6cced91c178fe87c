-- Laws of where things lie: every region fits on 256 to 1,048,576 pages, and no two things share a page.
use Rattle.std.proofs.Common.{◌≡◌, ℕ, zero, suc, ◌+◌, ◌*◌, ◌/◌, ◌<◌, ◌≤◌, ◌≢◌, List, refl, ap, arith}
use Rattle.pages.specs.Bits.{bit}
use Rattle.pages.specs.Geometry.{most_boxes, boxes_place, directory_pages, table_pages, selector_pages, selector_place, table_place, body_place}
use Rattle.pages.proofs.Bits.{bit_lt}

-- how many

pub directory_pages_some : (P : ℕ) → 14 ≤ directory_pages P
directory_pages_some P = omega arith

pub directory_pages_most : (P : ℕ) → directory_pages P ≤ 3086
directory_pages_most P = omega arith

pub boxes_fit : (P : ℕ) → boxes_place + 12 * most_boxes P ≤ 64 * directory_pages P
boxes_fit P = omega arith

pub slots_fit : (P : ℕ) → 64 * directory_pages P + 8 * (P / 2) ≤ 64 * table_pages P
slots_fit P = omega arith

pub selector_pages_some : (P : ℕ) → 1 ≤ selector_pages P
selector_pages_some P = omega arith

pub selector_pages_most : (P : ℕ) → P ≤ 1048576 → selector_pages P ≤ 17
selector_pages_most P h = omega arith

pub table_pages_selected : (P : ℕ) → table_pages P ≤ 4096 * selector_pages P
table_pages_selected P = omega arith

-- the bit of a table page lies in the selector words
pub selector_within : (P t : ℕ) → t < table_pages P → t / 64 < 64 * selector_pages P
selector_within P t h = omega arith

-- all of it fits
pub all_fits : (P : ℕ) → 256 ≤ P → body_place P (P / 2) ≤ P
all_fits P l = omega arith

-- selector pages: from page 1 up to the table

pub selector_place_below : (P a q : ℕ) → a < 2 → q < selector_pages P → selector_place P a q < 1 + 2 * selector_pages P
selector_place_below P zero q la lq = omega arith
selector_place_below P (suc zero) q la lq = omega arith
selector_place_below P (suc (suc a)) q la lq = absurd (omega arith)

pub selector_place_same : (P a b q r : ℕ) → a < 2 → b < 2 → q < selector_pages P → r < selector_pages P →
    selector_place P a q ≡ selector_place P b r → (a ≡ b) × (q ≡ r)
selector_place_same P zero zero q r la lb lq lr e = (refl, omega arith)
selector_place_same P zero (suc zero) q r la lb lq lr e = absurd (omega arith)
selector_place_same P (suc zero) zero q r la lb lq lr e = absurd (omega arith)
selector_place_same P (suc zero) (suc zero) q r la lb lq lr e = (refl, omega arith)
selector_place_same P (suc (suc a)) b q r la lb lq lr e = absurd (omega arith)
selector_place_same P zero (suc (suc b)) q r la lb lq lr e = absurd (omega arith)
selector_place_same P (suc zero) (suc (suc b)) q r la lb lq lr e = absurd (omega arith)

pub selector_place_some : (P a q : ℕ) → selector_place P a q ≢ 0
selector_place_some P a q e = omega arith

pub selector_place_lt : (P a q : ℕ) → 256 ≤ P → a < 2 → q < selector_pages P → selector_place P a q < P
selector_place_lt P a q l la lq = omega (arith, selector_place_below P a q la lq, all_fits P l, directory_pages_some P)

-- table pages: twins beside one another, from the selector pages up to the bodies

pub table_place_from : (P : ℕ) (ws : List ℕ) (t : ℕ) → 1 + 2 * selector_pages P ≤ table_place P ws t
table_place_from P ws t = omega arith

pub table_place_below : (P : ℕ) (ws : List ℕ) (t : ℕ) → t < table_pages P → table_place P ws t < 1 + 2 * selector_pages P + 2 * table_pages P
table_place_below P ws t h = omega (arith, bit_lt ws t)

pub table_place_lt : (P : ℕ) (ws : List ℕ) (t : ℕ) → 256 ≤ P → t < table_pages P → table_place P ws t < P
table_place_lt P ws t l h = omega (arith, table_place_below P ws t h, all_fits P l)

pub table_place_some : (P : ℕ) (ws : List ℕ) (t : ℕ) → table_place P ws t ≢ 0
table_place_some P ws t e = omega arith

-- whatever the bits are, pages of the table that share a place are one
pub table_place_same : (P : ℕ) (vs ws : List ℕ) (t u : ℕ) → table_place P vs t ≡ table_place P ws u → (t ≡ u) × (bit vs t ≡ bit ws u)
table_place_same P vs ws t u e = (omega (arith, bit_lt vs t, bit_lt ws u), omega (arith, bit_lt vs t, bit_lt ws u))

pub table_place_apart : (P : ℕ) (vs ws : List ℕ) (t u : ℕ) → t ≢ u → table_place P vs t ≢ table_place P ws u
table_place_apart P vs ws t u n e = n (table_place_same P vs ws t u e).0

-- the twins of a page
pub table_place_twins : (P : ℕ) (vs ws : List ℕ) (t : ℕ) → bit vs t ≢ bit ws t → table_place P vs t ≢ table_place P ws t
table_place_twins P vs ws t n e = n (table_place_same P vs ws t t e).1

pub table_place_bits : (P : ℕ) (vs ws : List ℕ) (t : ℕ) → bit vs t ≡ bit ws t → table_place P vs t ≡ table_place P ws t
table_place_bits P vs ws t e = ap (λ b. 1 + 2 * selector_pages P + 2 * t + b) e

pub selector_table_apart : (P a q : ℕ) (ws : List ℕ) (t : ℕ) → a < 2 → q < selector_pages P → selector_place P a q ≢ table_place P ws t
selector_table_apart P a q ws t la lq e = omega (arith, selector_place_below P a q la lq, table_place_from P ws t)

-- bodies: past all of those, up to the last page

pub body_place_lt : (P b : ℕ) → 256 ≤ P → b < P / 2 → body_place P b < P
body_place_lt P b l h = omega (arith, all_fits P l)

pub body_place_same : (P b c : ℕ) → body_place P b ≡ body_place P c → b ≡ c
body_place_same P b c e = omega arith

pub body_place_some : (P b : ℕ) → body_place P b ≢ 0
body_place_some P b e = omega arith

pub selector_body_apart : (P a q b : ℕ) → a < 2 → q < selector_pages P → selector_place P a q ≢ body_place P b
selector_body_apart P a q b la lq e = omega (arith, selector_place_below P a q la lq)

pub table_body_apart : (P : ℕ) (ws : List ℕ) (t b : ℕ) → t < table_pages P → table_place P ws t ≢ body_place P b
table_body_apart P ws t b h e = omega (arith, table_place_below P ws t h)
