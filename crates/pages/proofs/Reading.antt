-- What reading sees: a page that was written, every other page as it was, and the same before and after a flush.
use Rattle.std.proofs.Common.{◌≡◌, ℕ, zero, suc, ◌<◌, ◌≢◌, List, [], ◌∷◌, ◌++◌, length, refl, ap, ◌∙◌, arith}
use Rattle.model.specs.Device.{Device, Page, Write, set_page, page_at, all_written, read_page, flushed}
use Rattle.model.specs.Run.{queued}

pub length_set_page : (ps : List Page) (k : ℕ) (p : Page) → length (set_page ps k p) ≡ length ps
unfolding set_page
length_set_page [] k p = refl
length_set_page (q ∷ ps) zero p = refl
length_set_page (q ∷ ps) (suc k) p = ap suc (length_set_page ps k p)

pub page_at_set_same : (ps : List Page) (k : ℕ) (p : Page) → k < length ps → page_at (set_page ps k p) k ≡ p
unfolding set_page page_at
page_at_set_same [] k p l = absurd (omega arith)
page_at_set_same (q ∷ ps) zero p l = refl
page_at_set_same (q ∷ ps) (suc k) p l = page_at_set_same ps k p (omega arith)

pub page_at_set_other : (ps : List Page) (j k : ℕ) (p : Page) → j ≢ k → page_at (set_page ps k p) j ≡ page_at ps j
unfolding set_page page_at
page_at_set_other [] j k p n = refl
page_at_set_other (q ∷ ps) zero zero p n = absurd (n refl)
page_at_set_other (q ∷ ps) zero (suc k) p n = refl
page_at_set_other (q ∷ ps) (suc j) zero p n = refl
page_at_set_other (q ∷ ps) (suc j) (suc k) p n = page_at_set_other ps j k p (λ e. n (ap suc e))

pub length_all_written : (ps : List Page) (ws : List Write) → length (all_written ps ws) ≡ length ps
unfolding all_written
length_all_written ps [] = refl
length_all_written ps (w ∷ ws) = length_all_written (set_page ps w.at w.page) ws ∙ length_set_page ps w.at w.page

pub all_written_push : (ps : List Page) (ws : List Write) (w : Write) → all_written ps (ws ++ w ∷ []) ≡ set_page (all_written ps ws) w.at w.page
unfolding all_written
all_written_push ps [] w = refl
all_written_push ps (v ∷ ws) w = all_written_push (set_page ps v.at v.page) ws w

-- all pages as reading sees them, after one more write
pub written_queued : (d : Device) (k : ℕ) (p : Page) → (flushed (queued d k p)).pages ≡ set_page (flushed d).pages k p
written_queued d k p = all_written_push d.pages d.queue (record { at = k; page = p })

pub read_queued_same : (d : Device) (k : ℕ) (p : Page) → k < length d.pages → read_page (queued d k p) k ≡ p
read_queued_same d k p l =
    ap (λ ps. page_at ps k) (written_queued d k p) ∙ page_at_set_same (flushed d).pages k p (omega (arith, length_all_written d.pages d.queue))

pub read_queued_other : (d : Device) (j k : ℕ) (p : Page) → j ≢ k → read_page (queued d k p) j ≡ read_page d j
read_queued_other d j k p n = ap (λ ps. page_at ps j) (written_queued d k p) ∙ page_at_set_other (flushed d).pages j k p n

pub read_flushed : (d : Device) (j : ℕ) → read_page (flushed d) j ≡ read_page d j
unfolding all_written
read_flushed d j = refl

pub page_at_flushed : (d : Device) (j : ℕ) → page_at (flushed d).pages j ≡ read_page d j
page_at_flushed d j = refl

-- no waiting write goes to a place
abbrev pub Elsewhere : ℕ → List Write → Type 0
Elsewhere j [] = Unit {0}
Elsewhere j (w ∷ ws) = (j ≢ w.at) × Elsewhere j ws

pub page_at_elsewhere : (ws : List Write) (ps : List Page) (j : ℕ) → Elsewhere j ws → page_at (all_written ps ws) j ≡ page_at ps j
unfolding all_written
page_at_elsewhere [] ps j e = refl
page_at_elsewhere (w ∷ ws) ps j e = page_at_elsewhere ws (set_page ps w.at w.page) j e.1 ∙ page_at_set_other ps j w.at w.page e.0

pub read_elsewhere : (d : Device) (j : ℕ) → Elsewhere j d.queue → read_page d j ≡ page_at d.pages j
read_elsewhere d j e = page_at_elsewhere d.queue d.pages j e

pub elsewhere_push : (ws : List Write) (j k : ℕ) (p : Page) → j ≢ k → Elsewhere j ws → Elsewhere j (ws ++ record { at = k; page = p } ∷ [])
elsewhere_push [] j k p n e = (n, tt)
elsewhere_push (w ∷ ws) j k p n e = (e.0, elsewhere_push ws j k p n e.1)
