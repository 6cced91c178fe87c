-- Numbers of bytes, the highest first, and parts of a list that may end early.
use Rattle.std.proofs.Common.{◌≡◌, ℕ, zero, suc, ◌+◌, ◌-◌, ◌*◌, ◌<◌, ◌≤◌, List, [], ◌∷◌, ◌++◌, length, get_or, w64, sym, refl, ap, ◌∙◌, length-append, arith}
use Rattle.std.proofs.lemmas.List.{take_all, get_or_append_left, get_or-append_right, ext_get_or}
use Rattle.std.specs.Int.{from_be_bytes}
use Rattle.model.specs.Device.{zeros}
use Rattle.model.specs.Promise.{from_bytes}
use Rattle.pages.proofs.Words.{word_of_bytes, length_zeros, get_or_zeros}
use Rattle.house.specs.Entry.{from_eight}

-- zeros before a number change nothing
after_zeros : (k : ℕ) (bs : List ℕ) → from_bytes 0 (zeros k ++ bs) ≡ from_bytes 0 bs
unfolding from_bytes zeros
after_zeros zero bs = refl
after_zeros (suc k) bs = after_zeros k bs

spelled : (n : ℕ) (bs : List ℕ) → from_bytes n bs ≡ from_eight n bs
unfolding from_bytes from_eight
spelled n [] = refl
spelled n (b ∷ bs) = spelled (256 * n + b) bs

-- at most eight bytes at the end of eight zeros
module _ (bs : List ℕ) (few : length bs ≤ 8) where
  pub in_zeros : (k : ℕ) → k < 8 - length bs → 0 ≡ get_or (zeros (8 - length bs) ++ bs) k 0
  in_zeros k l = sym (get_or_append_left (zeros (8 - length bs)) bs 0 k (omega (arith, length_zeros (8 - length bs))) ∙ get_or_zeros (8 - length bs) k)

  pub in_bytes : (k : ℕ) → 8 - length bs ≤ k → get_or bs (k - (8 - length bs)) 0 ≡ get_or (zeros (8 - length bs) ++ bs) k 0
  in_bytes k l = sym (get_or-append_right (zeros (8 - length bs)) bs (8 - length bs) k 0 (length_zeros (8 - length bs)) l)

  size : length (zeros (8 - length bs) ++ bs) ≡ 8
  size = length-append (zeros (8 - length bs)) bs ∙ omega (arith, length_zeros (8 - length bs))

  pub padded : (word : List ℕ) → length word ≡ 8 → ((k : ℕ) → k < 8 → get_or word k 0 ≡ get_or (zeros (8 - length bs) ++ bs) k 0) → from_be_bytes w64 word ≡ from_eight 0 bs
  padded word long each =
      ap (from_be_bytes w64) (ext_get_or 0 word (zeros (8 - length bs) ++ bs) (omega (arith, long, size)) (λ k l. each k (omega (arith, long))))
      ∙ word_of_bytes (zeros (8 - length bs) ++ bs) (omega (arith, size))
      ∙ ap (from_bytes 0) (take_all 8 (zeros (8 - length bs) ++ bs) (omega (arith, size)))
      ∙ after_zeros (8 - length bs) bs
      ∙ spelled 0 bs
