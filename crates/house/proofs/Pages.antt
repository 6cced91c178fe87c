-- What is read from pages on which nothing waits: their words, one page after another; and what a stop leaves of them, which is all.
use Rattle.std.proofs.Common.{◌≡◌, ℕ, zero, suc, ◌+◌, ◌*◌, ◌<◌, ◌≤◌, true, ltb, List, [], ◌∷◌, ◌++◌, length, take, sym, refl, ap, ◌∙◌, subst, inl, zero-add, arith, length-append}
use lib.Seq.{take-append_seam, drop-append-add}
use Rattle.std.proofs.lemmas.Bool.{eq-eqb, and_parts}
use Rattle.model.specs.Mail.{flat, every}
use Rattle.model.specs.House.{House}
use Rattle.model.specs.Device.{Device, Page, page_at, all_written, read_page, left, stopped, a_page, zeros, blank}
use Rattle.model.specs.Run.{all_small, new_world}
use Rattle.model.specs.Promise.{first_house}
use Rattle.pages.specs.Words.{words_in, bytes_of, part, patched}
use Rattle.pages.specs.Store.{Kept}
use Rattle.pages.specs.Commit.{first_image, BlankKept}
use Rattle.pages.proofs.Words.{length_zeros, words_in_take, words_in_bytes, length_part, part_more, part_patched_next, part_all, all_small_nil, all_small_append}
use Rattle.pages.proofs.Blank.{blank_kept}
use Rattle.mailboxes.specs.Directory.{count_up}
use Rattle.house.proofs.Rest.{WholePages, Down}

-- nothing waits: a reader sees the pages, and a stop leaves them as they are
pub read_still : (d : Device) → d.queue ≡ [] → (k : ℕ) → read_page d k ≡ page_at d.pages k
unfolding all_written
read_still d e k = ap (λ q. page_at (all_written d.pages q) k) e

pub stopped_still : (d : Device) → d.queue ≡ [] → (cs : List ℕ) → (stopped d cs).pages ≡ d.pages
unfolding left
stopped_still d e cs = ap (λ q. left d.pages q cs) e

pub down_stopped : (P n : ℕ) (h : House) (d : Device) → Down P n h d → (cs : List ℕ) → Down P n h (stopped d cs)
down_stopped P n h d D cs = record {
  image = D.image;
  kept = subst (λ ps. Kept P D.image ps) (sym (stopped_still d D.still cs)) D.kept;
  whole_pages = subst (λ ps. WholePages ps) (sym (stopped_still d D.still cs)) D.whole_pages;
  still = refl;
  stored = D.stored;
}

-- pages of zeros are whole, and keep the first house
bytes_zeros : (n : ℕ) → every (λ b. ltb b 256) (zeros n) ≡ true
unfolding zeros
bytes_zeros zero = refl
bytes_zeros (suc n) = bytes_zeros n

zeros_page : a_page (zeros 512) ≡ true
zeros_page = rw (eq-eqb (length (zeros 512)) 512 (length_zeros 512)) (bytes_zeros 512)

whole_blank : (n : ℕ) → WholePages (blank n)
unfolding blank
whole_blank zero = refl
whole_blank (suc n) = rw zeros_page (whole_blank n)

pub first_down : (P n : ℕ) → 256 ≤ P → Down P n (first_house n) (new_world P).device
unfolding BlankKept
first_down P n l = record {
  image = first_image P;
  kept = blank_kept P l;
  whole_pages = whole_blank P;
  still = refl;
  stored = inl (refl, refl);
}

-- each page is whole
pub whole_page : (ps : List Page) (k : ℕ) → WholePages ps → k < length ps → a_page (page_at ps k) ≡ true
unfolding page_at
whole_page [] k w l = absurd (omega arith)
whole_page (p ∷ ps) zero w l = (and_parts (a_page p) (every a_page ps) w).0
whole_page (p ∷ ps) (suc k) w l = whole_page ps k (and_parts (a_page p) (every a_page ps) w).1 (omega arith)

-- the words of a page that was written as words, and those of its first half
pub page_words : (p ws : List ℕ) → p ≡ bytes_of ws → length ws ≡ 64 → all_small ws ≡ true → words_in 64 p ≡ ws
page_words p ws e l s = ap (words_in 64) e ∙ ap (λ n. words_in n (bytes_of ws)) (sym l) ∙ words_in_bytes ws s

pub header_words : (p ws : List ℕ) → take 256 p ≡ bytes_of ws → length ws ≡ 32 → all_small ws ≡ true → words_in 32 p ≡ ws
header_words p ws e l s = sym (words_in_take 32 256 p (omega arith)) ∙ ap (words_in 32) e ∙ ap (λ n. words_in n (bytes_of ws)) (sym l) ∙ words_in_bytes ws s

-- lists that agree as far as they have been read agree by 64 words more
pub agree_more : (xs ys : List ℕ) (k : ℕ) → k + 64 ≤ length xs → k + 64 ≤ length ys → take k xs ≡ take k ys → take (k + 64) (patched xs k (part ys k 64)) ≡ take (k + 64) ys
agree_more xs ys k a b e =
    let ws = part ys k 64 in
    let l : length (part ys k 64) ≡ 64 = length_part ys k 64 b in
    ap (λ j. take (k + j) (patched xs k ws)) (sym l)
    ∙ subst (λ j. part (patched xs j ws) 0 (k + length ws) ≡ part xs 0 k ++ ws) (zero-add k) (part_patched_next xs 0 k ws (omega arith))
    ∙ ap (λ r. r ++ ws) e
    ∙ sym (subst (λ j. part ys 0 (k + 64) ≡ part ys 0 k ++ part ys j 64) (zero-add k) (part_more ys 0 k 64))

pub agree_all : (xs ys : List ℕ) (k : ℕ) → length xs ≡ k → length ys ≡ k → take k xs ≡ take k ys → xs ≡ ys
agree_all xs ys k a b e = sym (part_all xs k a) ∙ e ∙ part_all ys k b

-- pages of 64 words, one after another
pub length_pages : (f : ℕ → List ℕ) (k from : ℕ) → ((t : ℕ) → from ≤ t → t < from + k → length (f t) ≡ 64) → length (flat f (count_up from k)) ≡ 64 * k
unfolding count_up
length_pages f zero from l = refl
length_pages f (suc k) from l =
    length-append (f from) (flat f (count_up (suc from) k)) ∙ (let a = l from (omega arith) (omega arith) in let b = length_pages f k (suc from) (λ t g h. l t (omega arith) (omega arith)) in omega arith)

pub page_of_pages : (f : ℕ → List ℕ) (k from t : ℕ) → t < k → ((u : ℕ) → from ≤ u → u < from + k → length (f u) ≡ 64) → part (flat f (count_up from k)) (64 * t) 64 ≡ f (from + t)
unfolding count_up
page_of_pages f zero from t b l = absurd (omega arith)
page_of_pages f (suc k) from zero b l =
    let a : length (f from) ≡ 64 = l from (omega arith) (omega arith) in
    let z : from + 0 ≡ from = omega arith in
    ap (λ j. take j (f from ++ flat f (count_up (suc from) k))) (sym a) ∙ take-append_seam (f from) (flat f (count_up (suc from) k)) ∙ ap f (sym z)
page_of_pages f (suc k) from (suc t) b l =
    let a : length (f from) ≡ 64 = l from (omega arith) (omega arith) in
    let z : 64 * suc t ≡ length (f from) + 64 * t = omega arith in
    let y : suc from + t ≡ from + suc t = omega arith in
    ap (λ j. part (f from ++ flat f (count_up (suc from) k)) j 64) z
    ∙ ap (take 64) (drop-append-add (f from) (flat f (count_up (suc from) k)) (64 * t))
    ∙ page_of_pages f k (suc from) t (omega arith) (λ u g h. l u (omega arith) (omega arith))
    ∙ ap f y

pub small_pages : (f : ℕ → List ℕ) (k from : ℕ) → ((t : ℕ) → from ≤ t → t < from + k → all_small (f t) ≡ true) → all_small (flat f (count_up from k)) ≡ true
unfolding count_up
small_pages f zero from l = all_small_nil
small_pages f (suc k) from l =
    all_small_append (f from) (flat f (count_up (suc from) k)) (l from (omega arith) (omega arith)) (small_pages f k (suc from) (λ t g h. l t (omega arith) (omega arith)))
