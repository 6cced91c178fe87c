-- How many records so many words have room for, and when they have room for one box more.
use Rattle.std.specs.Prelude.{ℕ, ◌+◌, ◌-◌, ◌*◌, ◌/◌, min, Bool, ◌&&◌, List, length, nat_le, nat_lt}

abbrev pub people_room : ℕ → ℕ
people_room words = min 64 (words / 12)

abbrev pub box_room : ℕ → ℕ
box_room words = (words - 864) / 12

-- the owner in range, the name not too long, and words left for the record
abbrev pub room_for : (words boxes owner : ℕ) → List ℕ → Bool
room_for words boxes owner nm = nat_lt owner 64 && (nat_le (length nm) 64 && nat_le (864 + 12 * (boxes + 1)) words)
