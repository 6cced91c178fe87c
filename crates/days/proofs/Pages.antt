-- What is put onto pages one write after another is what the model puts there; and whoever reads a page sees the last write to it that waits.
use Rattle.std.proofs.Common.{◌≡◌, ℕ, zero, suc, ◌+◌, ◌-◌, ◌<◌, ◌≤◌, min, Bool, true, false, cond, eqb, List, [], ◌∷◌, ◌++◌, length, get_or, take, drop, set, replicate, reverse, Option, Some, None, Bor, ◌==◌, sym, refl, ap, ◌∙◌, inl, inr, arith, length-set, get_or-set_same, eq-eqb, ne_eqb}
use Rattle.std.specs.List.{find}
use Rattle.std.specs.Option.{MatchOption, option_map}
use Rattle.std.proofs.Math.Seq.{take-nil}
use Rattle.std.proofs.lemmas.Bool.{cases_lt, cases_eq, cond-true, cond-false}
use Rattle.std.proofs.lemmas.List.{set_past, set-get_or, get_or_default, reverse-append, at_drop_more, at_drop_all}
use Rattle.model.specs.Mail.{pick, each}
use Rattle.model.specs.Device.{Page, Write, page_at, set_page, all_written, left, zeros, blank, Device as PageDevice}
use Rattle.model.proofs.Places.{page_at_is, set_page_is, page_at_other}
use Rattle.days.specs.declared.device.Leaves.{Leaves}
use Rattle.days.specs.declared.device.Leaves.TheVariants.{Nothing, All, Half}
use Rattle.days.specs.declared.device.Waiting.{Waiting}
use Rattle.days.specs.Held.{write_of, leaves_number, left_of, placed}

pub placed_there : (ps : List Page) (c : Leaves) (w : Write) (old new : Page) → w.at < length ps → old ≡ get_or ps w.at old → new ≡ left_of c w.page old →
    set ps w.at new ≡ placed c w ps
placed_there ps c w old new h e f =
    ap (set ps w.at) (f ∙ ap (left_of c w.page) (e ∙ get_or_default ps w.at old [] h ∙ sym (page_at_is ps w.at))) ∙ sym (set_page_is ps w.at _)

pub placed_away : (ps : List Page) (c : Leaves) (w : Write) → length ps ≤ w.at → ps ≡ placed c w ps
placed_away ps c w h = sym (set_page_is ps w.at _ ∙ set_past ps w.at _ h)

-- one write more came onto the pages
pub written_more : (ps : List Page) (ws : List Waiting) (i : ℕ) (d : Waiting) → i < length ws →
    all_written ps (each write_of (drop i ws)) ≡ all_written (placed All (write_of (get_or ws i d)) ps) (each write_of (drop (i + 1) ws))
unfolding all_written
written_more ps ws i d h = at_drop_more (λ vs. all_written ps (each write_of vs)) ws i d h

pub length_written : (ps : List Page) (ws : List Write) → length (all_written ps ws) ≡ length ps
unfolding all_written
length_written ps [] = refl
length_written ps (w ∷ ws) =
    length_written (set_page ps w.at w.page) ws ∙ ap length (set_page_is ps w.at w.page) ∙ length-set ps w.at w.page

-- or what a stop leaves of it
left_one : (ps : List Page) (c : Leaves) (w : Write) →
    pick (leaves_number c == 1) (set_page ps w.at w.page) (pick (leaves_number c == 2) (set_page ps w.at (left_of Half w.page (page_at ps w.at))) ps) ≡ placed c w ps
left_one ps Nothing w = sym (set_page_is ps w.at _ ∙ ap (set ps w.at) (page_at_is ps w.at) ∙ set-get_or ps w.at [])
left_one ps All w = refl
left_one ps Half w = refl

pub left_more : (ps qs : List Page) (ws : List Waiting) (cs : List Leaves) (i n : ℕ) (w : Waiting) (c : Leaves) → i < length ws → i < length cs →
    w ≡ get_or ws i w → c ≡ get_or cs i c → n ≡ i + 1 → qs ≡ placed c (write_of w) ps →
    left ps (each write_of (drop i ws)) (each leaves_number (drop i cs)) ≡ left qs (each write_of (drop n ws)) (each leaves_number (drop n cs))
unfolding left
left_more ps qs ws cs i n w c h l e f m q =
    at_drop_more (λ vs. left ps (each write_of vs) (each leaves_number (drop i cs))) ws i w h
    ∙ at_drop_more (λ ds. left ps (write_of (get_or ws i w) ∷ each write_of (drop (i + 1) ws)) (each leaves_number ds)) cs i c l
    ∙ ap (λ rs. left rs (each write_of (drop (i + 1) ws)) (each leaves_number (drop (i + 1) cs))) (left_one ps (get_or cs i c) (write_of (get_or ws i w)))
    ∙ ap (λ v. left (placed (get_or cs i c) (write_of v) ps) (each write_of (drop (i + 1) ws)) (each leaves_number (drop (i + 1) cs))) (sym e)
    ∙ ap (λ d. left (placed d (write_of w) ps) (each write_of (drop (i + 1) ws)) (each leaves_number (drop (i + 1) cs))) (sym f)
    ∙ ap (λ rs. left rs (each write_of (drop (i + 1) ws)) (each leaves_number (drop (i + 1) cs))) (sym q)
    ∙ ap (λ k. left qs (each write_of (drop k ws)) (each leaves_number (drop k cs))) (sym m)

left_none : (ps : List Page) (ws : List Write) → left ps ws [] ≡ ps
unfolding left
left_none ps [] = refl
left_none ps (w ∷ ws) = refl

pub left_end : (ps : List Page) (ws : List Waiting) (cs : List Leaves) (n : ℕ) → n ≡ min (length ws) (length cs) →
    left ps (each write_of (drop n ws)) (each leaves_number (drop n cs)) ≡ ps
unfolding left
left_end ps ws cs n e = elim (cases_lt n (length ws)) [
  | inl h ↦ at_drop_all (λ ds. left ps (each write_of (drop n ws)) (each leaves_number ds)) cs n (omega arith) ∙ left_none ps (each write_of (drop n ws))
  | inr h ↦ at_drop_all (λ vs. left ps (each write_of vs) (each leaves_number (drop n cs))) ws n h
]

-- the page that is read: that of the last write to it, or the one that was kept
abbrev pub seen : Page → Option Waiting → Page
seen p None = p
seen p (Some w) = w.bytes

seen_last : (p : Page) (t : Waiting → Bool) (ws : List Waiting) (w : Waiting) → seen (cond (t w) w.bytes p) (find t ws) ≡ seen p (find t (ws ++ w ∷ []))
seen_last p t [] w = elim (t w) as (λ b. cond b w.bytes p ≡ seen p (cond b (Some w) None)) [ true ↦ refl | false ↦ refl ]
seen_last p t (v ∷ vs) w =
    elim (t v) as (λ b. seen (cond (t w) w.bytes p) (cond b (Some v) (find t vs)) ≡ seen p (cond b (Some v) (find t (vs ++ w ∷ []))))
    [ true ↦ refl | false ↦ seen_last p t vs w ]

written_one : (ps : List Page) (k : ℕ) (w : Waiting) → k < length ps → page_at (set_page ps w.page w.bytes) k ≡ cond (eqb w.page k) w.bytes (page_at ps k)
written_one ps k w h = elim (cases_eq w.page k) [ inl e ↦ same e | inr ne ↦ other ne ]
  where
    same : w.page ≡ k → page_at (set_page ps w.page w.bytes) k ≡ cond (eqb w.page k) w.bytes (page_at ps k)
    same e =
        ap (λ j. page_at (set_page ps j w.bytes) k) e ∙ page_at_is (set_page ps k w.bytes) k ∙ ap (λ qs. get_or qs k []) (set_page_is ps k w.bytes)
        ∙ get_or-set_same ps k w.bytes [] h ∙ sym (cond-true (eqb w.page k) w.bytes (page_at ps k) (eq-eqb w.page k e))

    other : (w.page ≡ k → ⊥) → page_at (set_page ps w.page w.bytes) k ≡ cond (eqb w.page k) w.bytes (page_at ps k)
    other ne = page_at_other ps w.page k w.bytes (λ e. ne (sym e)) ∙ sym (cond-false (eqb w.page k) w.bytes (page_at ps k) (ne_eqb w.page k ne))

pub seen_is : (ps : List Page) (ws : List Waiting) (k : ℕ) → k < length ps →
    page_at (all_written ps (each write_of ws)) k ≡ seen (page_at ps k) (find (λ w. eqb w.page k) (reverse ws))
unfolding all_written
seen_is ps [] k h = refl
seen_is ps (w ∷ ws) k h =
    seen_is (set_page ps w.page w.bytes) ws k (omega (arith, ap length (set_page_is ps w.page w.bytes), length-set ps w.page w.bytes))
    ∙ ap (λ p. seen p (find (λ v. eqb v.page k) (reverse ws))) (written_one ps k w h) ∙ seen_last (page_at ps k) (λ v. eqb v.page k) (reverse ws) w
    ∙ ap (λ vs. seen (page_at ps k) (find (λ v. eqb v.page k) vs)) (sym (reverse-append (w ∷ []) ws))

pub seen_by : (r : Option (Bor Waiting)) (o : Option Waiting) (p q : Bor Page) (P : Bor Waiting → Type 0) → ((x : Bor Waiting) → P x → q.now ≡ x.now.bytes) →
    MatchOption r (q ≡ p) P → option_map (λ x. x.now) r ≡ o → q.now ≡ seen p.now o
seen_by None o p q P f m e = ap (λ x. x.now) m ∙ ap (seen p.now) e
seen_by (Some x) o p q P f m e = f x m ∙ ap (seen p.now) e

-- empty pages
pub zeros_are : (n : ℕ) → zeros n ≡ replicate n 0
unfolding zeros
zeros_are zero = refl
zeros_are (suc n) = ap (λ r. 0 ∷ r) (zeros_are n)

pub blank_are : (n : ℕ) (p : Page) → p ≡ zeros 512 → replicate n p ≡ blank n
unfolding blank
blank_are zero p e = refl
blank_are (suc n) p e = ap (λ q. q ∷ replicate n p) e ∙ ap (λ qs. zeros 512 ∷ qs) (blank_are n p e)

-- pages that were filled up with such, where there were none
pub blank_filled : (ps qs : List Page) (n m : ℕ) (p : Page) → ps ≡ [] → m ≡ 0 → p ≡ zeros 512 → qs ≡ take n ps ++ replicate (n - m) p → qs ≡ blank n
blank_filled ps qs n m p e z q f =
    f ∙ ap (λ xs. take n xs ++ replicate (n - m) p) e ∙ ap (λ xs. xs ++ replicate (n - m) p) (take-nil n)
    ∙ ap (λ k. replicate k p) (omega arith) ∙ blank_are n p q

pub device_same : {ps qs : List Page} {ws vs : List Write} → ps ≡ qs → ws ≡ vs →
    ◌≡◌ {A = PageDevice} (record { pages = ps; queue = ws }) (record { pages = qs; queue = vs })
device_same {qs = qs} {ws = ws} e f =
    ap {B = PageDevice} (λ x. record { pages = x; queue = ws }) e ∙ ap {B = PageDevice} (λ x. record { pages = qs; queue = x }) f
