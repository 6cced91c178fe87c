-- How a command goes at a house that a host does the acts of: from a memory and an event, act by act, to its end. The host has a disk of pages and a
-- place for rows, and says itself what it is to read, to write and to keep pages, and to show a row: relations between what was before and after.
use Rattle.std.specs.Prelude.{◌≡◌, ℕ, List, length, take, Option, Some, None, Result, Ok, Err}
use Rattle.model.specs.Run.{Event, page, next, lost, Act, read, write, flush, shows, send, done, refused}
use Rattle.house.specs.declared.Told.{Told}
use Rattle.house.specs.declared.Told.TheVariants.{Read, Write, Flush, Shows, Send, Done, No}
use Rattle.house.specs.Machine.{own}
use Rattle.house.specs.Entry.{ActTold}
use Rattle.host.specs.declared.ending.Refused.{Refused}

-- the answer to a command that came to its end: it was done, or refused with a number
abbrev pub Answer : Type 0
Answer = Result (Unit {0}) Refused

-- the answer that an act is, where a command ends with it
abbrev pub answered : Act → Option Answer
answered (read k) = None
answered (write k p) = None
answered flush = None
answered (shows s) = None
answered (send c l) = None
answered done = Some (Ok tt)
answered (refused k) = Some (Err (record { 0 = k }))

-- the same of an act as the house tells it
abbrev pub answer_of : Told → Option Answer
answer_of (Read k) = None
answer_of (Write k) = None
answer_of Flush = None
answer_of (Shows n) = None
answer_of (Send n) = None
answer_of Done = Some (Ok tt)
answer_of (No k) = Some (Err (record { 0 = k }))

-- what a disk and a place for rows mean by their work
pub record Means (D R : Type 0) : Type 1 where
  pub gave : D → ℕ → List ℕ → D → Type 0  -- read: a page of it holds these bytes
  pub took : D → ℕ → List ℕ → D → Type 0  -- wrote: a page of it is to hold these bytes
  pub kept : D → D → Type 0  -- flushed
  pub showed : R → List ℕ → R → Type 0

abbrev pub means : {D R : Type 0} → (D → ℕ → List ℕ → D → Type 0) → (D → ℕ → List ℕ → D → Type 0) → (D → D → Type 0) → (R → List ℕ → R → Type 0) → Means D R
means g t k s = record { gave = g; took = t; kept = k; showed = s }

-- an act was done, and this is what the house is told of it. There is no line; after its end nothing is done
abbrev pub Did : {D R : Type 0} → Means D R → Act → D → R → Event → D → R → Type 0
Did w (read k) d r ev d₁ r₁ = (p : List ℕ) × (ev ≡ page p) × (length p ≡ 512) × w.gave d k p d₁ × (r₁ ≡ r)
Did w (write k p) d r ev d₁ r₁ = (ev ≡ next) × (length p ≡ 512 → w.took d k p d₁) × (r₁ ≡ r)
Did w flush d r ev d₁ r₁ = (ev ≡ next) × w.kept d d₁ × (r₁ ≡ r)
Did w (shows s) d r ev d₁ r₁ = (ev ≡ next) × (d₁ ≡ d) × w.showed r s r₁
Did w (send c l) d r ev d₁ r₁ = (ev ≡ lost) × (d₁ ≡ d) × (r₁ ≡ r)
Did w done d r ev d₁ r₁ = ⊥
Did w (refused k) d r ev d₁ r₁ = ⊥

-- from a memory, a disk, rows and an event the command ends so, and leaves these
pub data Goes {D R : Type 0} (w : Means D R) : List ℕ → D → R → Event → Answer → List ℕ → D → R → Type 0 where
  at_end : {m m' : List ℕ} {d : D} {r : R} {ev : Event} {answer : Answer} → answered (own.step m ev).act ≡ Some answer → m' ≡ (own.step m ev).memory
      → Goes w m d r ev answer m' d r
  on_from : {m m' : List ℕ} {d d' : D} {r r' : R} {ev : Event} {answer : Answer} (d₁ : D) (r₁ : R) (ev₁ : Event)
      → Did w (own.step m ev).act d r ev₁ d₁ r₁ → Goes w (own.step m ev).memory d₁ r₁ ev₁ answer m' d' r' → Goes w m d r ev answer m' d' r'

-- an event at this memory is answered by this act, and leaves this memory and this row
abbrev pub ToldBy : List ℕ → List ℕ → Event → Told → List ℕ → List ℕ → Type 0
ToldBy m row ev told m₁ row₁ = (m₁ ≡ (own.step m ev).memory) × ActTold (own.step m ev).act told row row₁

-- an act was done and the house was told so: what it answered then
abbrev pub After : {D R : Type 0} → Means D R → Told → List ℕ → List ℕ → D → R → Told → List ℕ → List ℕ → D → R → Type 0
After w (Read k) m row d r told m₁ row₁ d₁ r₁ = (p : List ℕ) × (length p ≡ 512) × w.gave d k p d₁ × (r₁ ≡ r) × ToldBy m row (page p) told m₁ row₁
After w (Write k) m row d r told m₁ row₁ d₁ r₁ = w.took d k (take 512 row) d₁ × (r₁ ≡ r) × ToldBy m row next told m₁ row₁
After w Flush m row d r told m₁ row₁ d₁ r₁ = w.kept d d₁ × (r₁ ≡ r) × ToldBy m row next told m₁ row₁
After w (Shows n) m row d r told m₁ row₁ d₁ r₁ = w.showed r (take n row) r₁ × (d₁ ≡ d) × ToldBy m row next told m₁ row₁
After w (Send n) m row d r told m₁ row₁ d₁ r₁ = (d₁ ≡ d) × (r₁ ≡ r) × ToldBy m row lost told m₁ row₁
After w Done m row d r told m₁ row₁ d₁ r₁ = (told ≡ Done) × (m₁ ≡ m) × (row₁ ≡ row) × (d₁ ≡ d) × (r₁ ≡ r)
After w (No k) m row d r told m₁ row₁ d₁ r₁ = (told ≡ No k) × (m₁ ≡ m) × (row₁ ≡ row) × (d₁ ≡ d) × (r₁ ≡ r)

-- from an act and what it left: whatever led there comes to this end
abbrev pub Ends : {D R : Type 0} → Means D R → Told → List ℕ → List ℕ → D → R → Answer → List ℕ → D → R → Type 0
Ends w told m row d r answer m' d' r' = (m₀ row₀ : List ℕ) (ev : Event) → ToldBy m₀ row₀ ev told m row → Goes w m₀ d r ev answer m' d' r'
