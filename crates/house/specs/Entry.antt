-- How a step of the house is told to the world outside: an event is a kind and some bytes, an act is an enum, and the bytes that go with it stand in a lent row.
use Rattle.std.specs.Prelude.{◌≡◌, ℕ, ◌+◌, ◌*◌, Bool, true, false, ◌&&◌, List, [], ◌∷◌, ◌++◌, length, take, drop, ◌==◌, nat_le}
use Rattle.model.specs.Mail.{pick}
use Rattle.model.specs.Run.{Event, on, said, page, next, heard, lost, Act, read, write, flush, shows, send, done, refused}
use Rattle.house.specs.declared.Told.{Told}
use Rattle.house.specs.declared.Told.TheVariants.{Read, Write, Flush, Shows, Send, Done, No}
use Rattle.house.specs.Machine.{own}

-- what the world tells is a kind and some bytes: 0 power, with three numbers of eight bytes, the highest first, 1 a command, 2 a page, 3 go on, 4 a letter, 5 no line
unfoldable pub from_eight : ℕ → List ℕ → ℕ
from_eight n [] = n
from_eight n (b ∷ bs) = from_eight (256 * n + b) bs

unfoldable pub event_of : ℕ → List ℕ → Event
event_of k bs = pick (k == 0) (on (from_eight 0 (take 8 bs)) (from_eight 0 (take 8 (drop 8 bs))) (from_eight 0 (take 8 (drop 16 bs)))) (pick (k == 1) (said bs) (pick (k == 2) (page bs) (pick (k == 3) next (pick (k == 4) (heard bs) lost))))

unfoldable pub ActTold : Act → Told → (out out₁ : List ℕ) → Type 0
ActTold (read k) r out out₁ = (r ≡ Read k) × (out₁ ≡ out)
ActTold (write k p) r out out₁ = (r ≡ Write k) × (out₁ ≡ p ++ drop (length p) out)
ActTold flush r out out₁ = (r ≡ Flush) × (out₁ ≡ out)
ActTold (shows s) r out out₁ = (r ≡ Shows (length s)) × (out₁ ≡ s ++ drop (length s) out)
ActTold (send d l) r out out₁ = (r ≡ Send (4097 * d + length l)) × (out₁ ≡ l ++ drop (length l) out)
ActTold done r out out₁ = (r ≡ Done) × (out₁ ≡ out)
ActTold (refused k) r out out₁ = (r ≡ No k) × (out₁ ≡ out)

-- one step: for memories of the house's own length and a lent row of 131,072 bytes; for others number 0 is told and nothing is changed
unfoldable pub StepSays : (memory : List ℕ) (kind : ℕ) (bytes out : List ℕ) → Bool → Told → (memory₁ out₁ : List ℕ) → Type 0
StepSays memory kind bytes out true r memory₁ out₁ =
    (memory₁ ≡ (own.step memory (event_of kind bytes)).memory) × ActTold (own.step memory (event_of kind bytes)).act r out out₁
StepSays memory kind bytes out false r memory₁ out₁ = (r ≡ No 0) × (memory₁ ≡ memory) × (out₁ ≡ out)

unfoldable pub step_fits : (memory : List ℕ) (kind : ℕ) (bytes out : List ℕ) → Bool
step_fits memory kind bytes out = length memory == length own.start && (nat_le kind 5 && nat_le 131072 (length out))
