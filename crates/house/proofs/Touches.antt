-- Pages of the directory that are to change: what the code turns is what the definition has.
use Rattle.std.proofs.Common.{◌≡◌, ℕ, ◌+◌, ◌-◌, ◌*◌, ◌/◌, ◌<◌, ◌≤◌, List, ◌++◌, length, take, drop, Some, Option, sym, refl, ap, ◌∙◌, arith}
use Rattle.std.proofs.lemmas.Option.{MatchOption-at_some}
use Rattle.pages.specs.Words.{part, patched}
use Rattle.pages.specs.Bits.{touched}
use Rattle.pages.specs.Geometry.{selector_pages, directory_pages}
use Rattle.pages.specs.Touched.{Untouched, IsFirst, first_touched}
use Rattle.pages.proofs.Words.{length_part, part_of_part, part_patched, part_patched_before, patched_patched}
use Rattle.pages.proofs.Bits.{length_touched}
use Rattle.pages.proofs.Geometry.{selector_pages_most}
use Rattle.pages.proofs.Touched.{first_touched_says}
use Rattle.house.specs.Memory.{counting_of, coming_of}
use Rattle.house.specs.Machine.{touch_record}
use Rattle.house.specs.Does.{page_touched}
use Rattle.house.proofs.Writes.{lent_part}

pub selector_words_most : (P : ℕ) → P ≤ 1048576 → 64 * selector_pages P ≤ 1088
selector_words_most P h = omega (arith, selector_pages_most P h)

-- one page, by the two parts that the code lends
pub page_turned : (m front back new : List ℕ) (n w t : ℕ) → length m ≡ 262144 → w ≡ n → w ≤ 1088 → front ≡ take 1184 m → back ≡ drop 1184 m →
    new ≡ touched (take (96 + w - 96) (drop 96 front)) (take w back) t → front ++ (new ++ drop w back) ≡ patched m 1184 (touched (part m 96 n) (part m 1184 n) t)
page_turned m front back new n w t long is most a b e =
    let turned : List ℕ = touched (part m 96 n) (part m 1184 n) t in
    let counting : take (96 + w - 96) (drop 96 (take 1184 m)) ≡ part m 96 n = lent_part (take 1184 m) 96 w n is ∙ part_of_part m 0 1184 96 n (omega arith) in
    let coming : take w (drop 1184 m) ≡ part m 1184 n = ap (λ k. take k (drop 1184 m)) is in
    let size : length turned ≡ n = length_touched (part m 96 n) (part m 1184 n) t ∙ length_part m 1184 n (omega arith) in
    let new_is : new ≡ turned = e ∙ ap (λ l. touched (take (96 + w - 96) (drop 96 l)) (take w back) t) a
    ∙ ap (λ l. touched (take (96 + w - 96) (drop 96 (take 1184 m))) (take w l) t) b
    ∙ ap (λ l. touched l (take w (drop 1184 m)) t) counting
    ∙ ap (λ l. touched (part m 96 n) l t) coming in
    ap (λ l. l ++ (new ++ drop w back)) a
    ∙ ap (λ l. take 1184 m ++ (new ++ drop w l)) b
    ∙ ap (λ l. take 1184 m ++ (l ++ drop w (drop 1184 m))) new_is
    ∙ ap (λ k. take 1184 m ++ (turned ++ drop k (drop 1184 m))) (is ∙ sym size)

-- two pages, one after the other
two_touched : (m : List ℕ) (n t u : ℕ) (new : List ℕ) → n ≤ 1088 → length m ≡ 262144 → new ≡ touched (part m 96 n) (part m 1184 n) t →
    patched (patched m 1184 new) 1184 (touched (part (patched m 1184 new) 96 n) (part (patched m 1184 new) 1184 n) u)
    ≡ patched m 1184 (touched (part m 96 n) new u)
two_touched m n t u new h long e =
    let size : length new ≡ n = ap length e ∙ length_touched (part m 96 n) (part m 1184 n) t ∙ length_part m 1184 n (omega arith) in
    let counting : part (patched m 1184 new) 96 n ≡ part m 96 n = part_patched_before m 1184 new 96 n (omega arith) (omega arith) in
    let coming : part (patched m 1184 new) 1184 n ≡ new = ap (part (patched m 1184 new) 1184) (sym size) ∙ part_patched m 1184 new (omega arith) in
    ap (λ ws. patched (patched m 1184 new) 1184 (touched ws (part (patched m 1184 new) 1184 n) u)) counting
    ∙ ap (λ ws. patched (patched m 1184 new) 1184 (touched (part m 96 n) ws u)) coming
    ∙ patched_patched m 1184 new (touched (part m 96 n) new u) (omega arith) (sym (length_touched (part m 96 n) new u))

pub record_touched : (P at : ℕ) (m m₁ m₂ : List ℕ) → P ≤ 1048576 → length m ≡ 262144 → m₁ ≡ page_touched P (at / 64) m → m₂ ≡ page_touched P ((at + 12 - 1) / 64) m₁ →
    m₂ ≡ touch_record P at m
unfolding touch_record
record_touched P at m m₁ m₂ h long e f =
    let last : (at + 12 - 1) / 64 ≡ (at + 11) / 64 = omega arith in
    f ∙ ap (λ l. page_touched P ((at + 12 - 1) / 64) l) e
    ∙ ap (λ u. page_touched P u (page_touched P (at / 64) m)) last
    ∙ two_touched m (64 * selector_pages P) (at / 64) ((at + 11) / 64) (touched (counting_of P m) (coming_of P m) (at / 64)) (selector_words_most P h) long refl

-- the next touched page, by the words that the code lends
module _ (P : ℕ) (m : List ℕ) (from d : ℕ) (counting coming : List ℕ) where
  pub next_is : (r : Option ℕ) → counting ≡ counting_of P m → coming ≡ coming_of P m → d ≡ directory_pages P → r ≡ first_touched counting coming from d →
      r ≡ first_touched (counting_of P m) (coming_of P m) from (directory_pages P)
  next_is r a b e f =
      f ∙ ap (λ ws. first_touched ws coming from d) a ∙ ap (λ ws. first_touched (counting_of P m) ws from d) b ∙ ap (first_touched (counting_of P m) (coming_of P m) from) e

  pub next_below : (t : ℕ) → counting ≡ counting_of P m → coming ≡ coming_of P m → d ≡ directory_pages P → Some t ≡ first_touched counting coming from d → t < directory_pages P
  next_below t a b e f =
      (MatchOption-at_some (Untouched (counting_of P m) (coming_of P m) from (directory_pages P)) (IsFirst (counting_of P m) (coming_of P m) from (directory_pages P)) t
      (sym (next_is (Some t) a b e f)) (first_touched_says (counting_of P m) (coming_of P m) from (directory_pages P))).before_end
