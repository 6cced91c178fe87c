-- Splitmix64: a state that goes on by a fixed step, and what is drawn from each.
use Rattle.std.specs.Prelude.{ℕ, ◌+◌, ◌*◌, ◌/◌, ◌%◌, ◌^◌, cond, ◌==◌, bit_xor}

abbrev pub stepped : ℕ → ℕ
stepped s = (s + 11400714819323198485) % 2 ^ 64

abbrev pub folded_over : ℕ → ℕ → ℕ
folded_over k x = bit_xor x (x / 2 ^ k)

-- what a state gives
unfoldable pub mixed : ℕ → ℕ
mixed s = folded_over 31 ((folded_over 27 ((folded_over 30 s * 13787848793156543929) % 2 ^ 64) * 10723151780598845931) % 2 ^ 64)

-- what is drawn next, and brought below a limit
abbrev pub drawn : ℕ → ℕ
drawn s = mixed (stepped s)

abbrev pub drawn_below : ℕ → ℕ → ℕ
drawn_below limit s = cond (limit == 0) 0 (drawn s % limit)
