-- What a day says, and what is told of it once it was played.
use Rattle.std.specs.Prelude.{◌≡◌, ℕ, ◌+◌, ◌<◌, ◌≤◌, min, List, Some, None, vec_items, vec_len, Option, Result, Ok, Err, slice_index}
use Rattle.model.specs.Mail.{added_up}
use Rattle.commands.specs.declared.kind.Kind.{Kind}
use Rattle.commands.specs.declared.kind.Kind.TheVariants.{Join, HandIn, Boxes, NewBox, DropBox, List as ListKind, Get, SetMark, ToBox, Clear, Rules, Find, Push}
use Rattle.house.specs.declared.Identity.{Identity}
use Rattle.days.specs.declared.make.Day.{Day}
use Rattle.days.specs.declared.make.Item.{Item}
use Rattle.days.specs.declared.make.Item.TheVariants.{Power, Said}
use Rattle.days.specs.declared.play.DayError.{DayError}
use Rattle.days.specs.declared.play.DayError.TheVariants.{NoMemory, Differs}
use Rattle.days.specs.declared.play.Tally.{Tally}

-- how many commands there are in a part of a day
abbrev pub says : Item → ℕ
says (Power t) = 0
says (Said s t) = 1

unfoldable pub all_said : List Item → ℕ
all_said is = added_up says is

-- a count that goes no further than 64 bits
abbrev pub more_by : ℕ → ℕ → ℕ
more_by n m = min (n + m) 18446744073709551615

-- the count of commands after one more item
abbrev pub counted : Item → ℕ → ℕ
counted (Power t) n = n
counted (Said s t) n = more_by n 1

-- the pages that were asked for, or as many as days are played on
abbrev pub Sized : Option ℕ → ℕ → Type 0
Sized None k = (256 ≤ k) × (k ≤ 1024)
Sized (Some n) k = k ≡ n

abbrev pub Fitting : Option ℕ → Identity → Type 0
Fitting asked i = (i.house < i.houses) × (i.houses ≤ 16) × Sized asked i.pages

-- a difference is one at this item
abbrev pub IsAt : ℕ → DayError → Type 0
IsAt k NoMemory = Unit {0}
IsAt k (Differs i x) = i ≡ k

-- a day that agrees was played with all its commands; one that differs does so at one of its items
abbrev pub Played : Day → Result Tally DayError → Type 0
Played d (Ok t) = t.ends.commands ≡ all_said (vec_items d.items)
Played d (Err NoMemory) = Unit {0}
Played d (Err (Differs i x)) = i < vec_len d.items

-- two counts together
abbrev pub Both : Tally → Tally → Tally → Type 0
Both t u v =
    (v.ends.commands ≡ more_by t.ends.commands u.ends.commands) × (v.ends.done ≡ more_by t.ends.done u.ends.done)
    × (v.losses.stops ≡ more_by t.losses.stops u.losses.stops) × (v.losses.cut_powers ≡ more_by t.losses.cut_powers u.losses.cut_powers)
    × ((k : ℕ) → k < 10 → slice_index v.ends.refused k ≡ more_by (slice_index t.ends.refused k) (slice_index u.ends.refused k))

-- how many commands of a kind are measured
abbrev pub series_len : Kind → ℕ
series_len Join = 40
series_len HandIn = 480
series_len Boxes = 480
series_len NewBox = 480
series_len DropBox = 480
series_len ListKind = 480
series_len Get = 480
series_len SetMark = 480
series_len ToBox = 480
series_len Clear = 480
series_len Rules = 480
series_len Find = 480
series_len Push = 480
