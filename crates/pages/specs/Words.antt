-- Words of eight bytes, the highest first, in rows of bytes; and parts of long lists of words.
use Rattle.std.specs.Prelude.{ℕ, zero, suc, List, [], ◌∷◌, ◌++◌, length, take, drop}
use Rattle.model.specs.Mail.{eight, flat}
use Rattle.model.specs.Promise.{from_bytes}

-- so many words from the front of a row of bytes
unfoldable pub words_in : ℕ → List ℕ → List ℕ
words_in zero bs = []
words_in (suc n) bs = from_bytes 0 (take 8 bs) ∷ words_in n (drop 8 bs)

-- the bytes of some words
unfoldable pub bytes_of : List ℕ → List ℕ
bytes_of ws = flat eight ws

-- so many words from a place on
abbrev pub part : List ℕ → ℕ → ℕ → List ℕ
part xs at n = take n (drop at xs)

-- a list with some words written over it from a place on
abbrev pub patched : List ℕ → ℕ → List ℕ → List ℕ
patched xs at ws = take at xs ++ (ws ++ drop (length ws) (drop at xs))
