-- Selector bits: 64 to a word, the lowest first.
use Rattle.std.specs.Prelude.{ℕ, ◌+◌, ◌-◌, ◌/◌, ◌%◌, ◌^◌, List, ◌==◌, slice_index, slice_set}
use Rattle.model.specs.Mail.{pick}

unfoldable pub word_bit : ℕ → ℕ → ℕ
word_bit w k = (w / 2 ^ k) % 2

unfoldable pub word_flipped : ℕ → ℕ → ℕ
word_flipped w k = pick (word_bit w k == 0) (w + 2 ^ k) (w - 2 ^ k)

unfoldable pub bit : List ℕ → ℕ → ℕ
bit ws t = word_bit (slice_index ws (t / 64)) (t % 64)

unfoldable pub flipped : List ℕ → ℕ → List ℕ
flipped ws t = slice_set ws (t / 64) (word_flipped (slice_index ws (t / 64)) (t % 64))

-- a table page that is to change: its bit is turned, once, away from the one that counts
unfoldable pub touched : (counting : List ℕ) → (coming : List ℕ) → ℕ → List ℕ
touched counting coming t = pick (bit counting t == bit coming t) (flipped coming t) coming
