-- Every page has 512 bytes, whatever a stop leaves of writes of whole pages.
use Rattle.std.proofs.Common.{◌≡◌, ℕ, zero, suc, true, eqb, ltb, List, [], ◌∷◌, ◌++◌, length, take, drop, arith, eq-eqb, eqb-true}
use Rattle.std.proofs.lemmas.List.{length-append, length-take, length-drop}
use Rattle.std.proofs.lemmas.Bool.{and_from}
use Rattle.model.specs.Mail.{every}
use Rattle.model.specs.Device.{Page, set_page, page_at, half, a_page}
use Rattle.pages.proofs.Harmless.{Harmless}
use Rattle.pages.proofs.Words.{every_take, every_drop}
use Rattle.model.proofs.Places.{every_append}
use Rattle.house.proofs.Places.{and_left, and_right}
use Rattle.house.proofs.Rest.{WholePages}

pub page_long : (p : Page) → a_page p ≡ true → length p ≡ 512
page_long p h = eqb-true (length p) 512 (and_left (eqb (length p) 512) (every (λ b. ltb b 256) p) h)

page_bytes : (p : Page) → a_page p ≡ true → every (λ b. ltb b 256) p ≡ true
page_bytes p h = and_right (eqb (length p) 512) (every (λ b. ltb b 256) p) h

pub half_page : (p q : Page) → a_page p ≡ true → a_page q ≡ true → a_page (half p q) ≡ true
unfolding half
half_page p q hp hq =
    let lp = page_long p hp in
    let lq = page_long q hq in
    let l : length (take 256 p ++ drop 256 q) ≡ 512 = simp (length-append, length-take, length-drop) (omega arith) in
    and_from _ _ (eq-eqb (length (take 256 p ++ drop 256 q)) 512 l)
    (every_append (λ b. ltb b 256) (take 256 p) (drop 256 q) (every_take (λ b. ltb b 256) 256 p (page_bytes p hp)) (every_drop (λ b. ltb b 256) 256 q (page_bytes q hq)))

whole_set : (ps : List Page) (k : ℕ) (p : Page) → a_page p ≡ true → WholePages ps → WholePages (set_page ps k p)
unfolding set_page
whole_set [] k p h w = w
whole_set (q ∷ qs) zero p h w = and_from (a_page p) (every a_page qs) h (and_right (a_page q) (every a_page qs) w)
whole_set (q ∷ qs) (suc k) p h w = and_from (a_page q) (every a_page (set_page qs k p)) (and_left (a_page q) (every a_page qs) w) (whole_set qs k p h (and_right (a_page q) (every a_page qs) w))

whole_half : (ps : List Page) (k : ℕ) (p : Page) → a_page p ≡ true → WholePages ps → WholePages (set_page ps k (half p (page_at ps k)))
unfolding set_page page_at
whole_half [] k p h w = w
whole_half (q ∷ qs) zero p h w = and_from (a_page (half p q)) (every a_page qs) (half_page p q h (and_left (a_page q) (every a_page qs) w)) (and_right (a_page q) (every a_page qs) w)
whole_half (q ∷ qs) (suc k) p h w = and_from (a_page q) (every a_page (set_page qs k (half p (page_at qs k)))) (and_left (a_page q) (every a_page qs) w) (whole_half qs k p h (and_right (a_page q) (every a_page qs) w))

pub whole_harmless : (k : ℕ) (p : Page) → a_page p ≡ true → Harmless WholePages (record { at = k; page = p })
whole_harmless k p h ps w = (whole_set ps k p h w, whole_half ps k p h w)
