-- Bytes as pairs of hexadecimal digits.
use Rattle.std.specs.Prelude.{ℕ, ◌+◌, ◌-◌, ◌*◌, ◌/◌, ◌%◌, cond, ◌&&◌, List, [], ◌∷◌, ◌++◌, Some, None, Option, nat_le, nat_lt, option_map, option_and_then}

-- the value of a digit; none of what is no digit
abbrev pub digit_value : ℕ → Option ℕ
digit_value c =
    cond (nat_le 48 c && nat_le c 57) (Some (c - 48)) (cond (nat_le 97 c && nat_le c 102) (Some (c - 87)) (cond (nat_le 65 c && nat_le c 70) (Some (c - 55)) None))

abbrev pub before : List ℕ → Option (List ℕ) → Option (List ℕ)
before bs None = None
before bs (Some cs) = Some (bs ++ cs)

-- the byte that two digits spell
abbrev pub pair_value : ℕ → ℕ → Option ℕ
pair_value c d = option_and_then (λ high. option_map (λ low. 16 * high + low) (digit_value d)) (digit_value c)

abbrev pub with_byte : Option ℕ → Option (List ℕ) → Option (List ℕ)
with_byte None o = None
with_byte (Some b) o = before (b ∷ []) o

-- the bytes that a text of digits spells; none where it has an odd one or something else
unfoldable pub unhexed : List ℕ → Option (List ℕ)
unhexed [] = Some []
unhexed (c ∷ []) = None
unhexed (c ∷ d ∷ cs) = with_byte (pair_value c d) (unhexed cs)

abbrev pub digit : ℕ → ℕ
digit n = cond (nat_lt n 10) (n + 48) (n + 87)

unfoldable pub hexed : List ℕ → List ℕ
hexed [] = []
hexed (b ∷ bs) = digit (b / 16) ∷ digit (b % 16) ∷ hexed bs
