-- Pages of zeros keep the first image.
use Rattle.std.proofs.Common.{◌≡◌, ℕ, zero, suc, ◌*◌, ◌<◌, length, take, sym, refl, ap, ◌∙◌, arith}
use Rattle.model.specs.Device.{page_at, zeros, blank}
use Rattle.pages.specs.Geometry.{selector_pages, table_place}
use Rattle.pages.specs.Commit.{BlankKept}
use Rattle.pages.proofs.Words.{get_or_zeros, take_zeros, bytes_of_zeros}
use Rattle.pages.proofs.Geometry.{table_place_lt}

pub length_blank : (n : ℕ) → length (blank n) ≡ n
unfolding blank
length_blank zero = refl
length_blank (suc n) = ap suc (length_blank n)

pub page_at_blank : (n k : ℕ) → k < n → page_at (blank n) k ≡ zeros 512
unfolding blank page_at
page_at_blank zero k l = absurd (omega arith)
page_at_blank (suc n) zero l = refl
page_at_blank (suc n) (suc k) l = page_at_blank n k (omega arith)

pub blank_kept : BlankKept
unfolding BlankKept
blank_kept P l = record {
  sized = length_blank P;
  header_kept = ap (λ p. take 256 p) (page_at_blank P 0 (omega arith)) ∙ (take_zeros 256 512 (omega arith) ∙ sym (bytes_of_zeros 32));
  selectors_kept = λ v. absurd (v (get_or_zeros 32 0));
  table_kept = λ t h. page_at_blank P (table_place P (zeros (64 * selector_pages P)) t) (table_place_lt P (zeros (64 * selector_pages P)) t l h) ∙ sym (bytes_of_zeros 64);
}
