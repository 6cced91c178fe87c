-- What the code's enums mean: events, refusals, and acts as two numbers.
use Rattle.std.specs.Prelude.{◌≡◌, ℕ, Bool, true, false, ◌&&◌, List, [], ◌∷◌, length, ◌==◌, nat_le}
use Rattle.model.specs.Run as run
use Rattle.model.specs.Run.{Engine, Step}
use Rattle.house.specs.declared.event.Kind.{Kind}
use Rattle.house.specs.declared.event.Kind.TheVariants as kind
use Rattle.house.specs.declared.event.Event.{Event}
use Rattle.house.specs.declared.event.Event.TheVariants.{Power, Said, Page, Next, Heard, Lost}
use Rattle.house.specs.declared.refusal.Refusal.{Refusal}
use Rattle.house.specs.declared.refusal.Refusal.TheVariants.{NoCommand, Unknown, NotThere, Taken, TooMany, NoRoom}
use Rattle.house.specs.declared.Told.{Told}
use Rattle.house.specs.declared.Told.TheVariants.{Read, Write, Flush, Shows, Send, Done, No}
use Rattle.house.specs.Machine.{own}
use Rattle.house.specs.Entry.{StepSays, step_fits, ActTold}

abbrev pub event_meant : Event → run.Event
event_meant (Power i) = run.on i.house i.houses i.pages
event_meant (Said bs) = run.said bs.now
event_meant (Page bs) = run.page bs.now
event_meant Next = run.next
event_meant (Heard bs) = run.heard bs.now
event_meant Lost = run.lost

-- what a step answers to an event: the memory and the act of the definition
abbrev pub Responds : (memory : List ℕ) → run.Event → Told → (out memory₁ out₁ : List ℕ) → Type 0
Responds memory ev r out memory₁ out₁ = (memory₁ ≡ (own.step memory ev).memory) × ActTold (own.step memory ev).act r out out₁

-- the same of what is lent: for memories of the house's own length and a lent row of 131,072 bytes; for others number 0 is told and nothing is changed
unfoldable pub TellSays : (memory : List ℕ) → run.Event → (out : List ℕ) → Bool → Told → (memory₁ out₁ : List ℕ) → Type 0
TellSays memory ev out true r memory₁ out₁ = Responds memory ev r out memory₁ out₁
TellSays memory ev out false r memory₁ out₁ = (r ≡ No 0) × (memory₁ ≡ memory) × (out₁ ≡ out)

unfoldable pub tell_fits : (memory out : List ℕ) → Bool
tell_fits memory out = length memory == length own.start && nat_le 131072 (length out)

-- the number that stands for a kind of event
abbrev pub kind_number : Kind → ℕ
kind_number kind.Power = 0
kind_number kind.Said = 1
kind_number kind.Page = 2
kind_number kind.Next = 3
kind_number kind.Heard = 4
kind_number kind.Lost = 5

abbrev pub refusal_number : Refusal → ℕ
refusal_number NoCommand = 1
refusal_number Unknown = 2
refusal_number NotThere = 3
refusal_number Taken = 4
refusal_number TooMany = 7
refusal_number NoRoom = 8

abbrev pub told_refusal : Refusal → run.Act
told_refusal r = run.refused (refusal_number r)

-- an act in two numbers, a tag and a value, as hosts in other languages get it
abbrev pub told_numbers : Told → ℕ × ℕ
told_numbers (Read k) = (0, k)
told_numbers (Write k) = (1, k)
told_numbers Flush = (2, 0)
told_numbers (Shows n) = (3, n)
told_numbers (Send n) = (4, n)
told_numbers Done = (5, 0)
told_numbers (No k) = (6, k)

-- a step for hosts in other languages: where there is room for two numbers, what the step says, in two numbers; otherwise 0, and all as it was
abbrev pub ExportedAs : (memory : List ℕ) (kind : ℕ) (bytes out told : List ℕ) → Bool → ℕ → (memory₁ out₁ told₁ : List ℕ) → Type 0
ExportedAs memory kind bytes out told true r memory₁ out₁ told₁ =
    (r ≡ 1)
    × ((act : Told) × StepSays memory kind bytes out (step_fits memory kind bytes out) act memory₁ out₁
    × (told₁ ≡ (told_numbers act).0 ∷ (told_numbers act).1 ∷ []))
ExportedAs memory kind bytes out told false r memory₁ out₁ told₁ = (r ≡ 0) × (memory₁ ≡ memory) × (out₁ ≡ out) × (told₁ ≡ told)

unfoldable pub Exported : (memory : List ℕ) (kind : ℕ) (bytes out told : List ℕ) → ℕ → (memory₁ out₁ told₁ : List ℕ) → Type 0
Exported memory kind bytes out told r memory₁ out₁ told₁ = ExportedAs memory kind bytes out told (length told == 2) r memory₁ out₁ told₁
