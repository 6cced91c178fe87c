-- What may be asked for on the command line.
use Rattle.std.specs.Prelude.{ℕ, ◌<◌, ◌≤◌, Some, None, Option}
use Rattle.posthouse.specs.declared.options.Wish.{Wish}
use Rattle.posthouse.specs.declared.options.Wish.TheVariants.{Help, House}

-- one of so many houses, at most 16
abbrev pub OneOf : ℕ → ℕ → Type 0
OneOf house houses = (house < houses) × (houses ≤ 16)

-- no number of pages is said, or one that a house can have
abbrev pub Pages : Option ℕ → Type 0
Pages None = Unit {0}
Pages (Some n) = (256 ≤ n) × (n ≤ 1048576)

-- how many pages a new file gets
abbrev pub pages_of : Option ℕ → ℕ
pages_of None = 65536
pages_of (Some n) = n

abbrev pub Proper : Wish → Type 0
Proper Help = Unit {0}
Proper (House o) = OneOf o.house o.houses × Pages o.pages
