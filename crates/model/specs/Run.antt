-- The house as a machine with a memory, asked and answered step by step; how it runs beside its pages and the other houses.
-- Assumes nothing: these are definitions.
use Rattle.std.specs.Prelude.{◌≡◌, ℕ, zero, suc, ◌≤◌, Bool, true, false, ◌&&◌, ltb, ◌⊎◌, List, [], ◌∷◌, ◌++◌, length, ◌==◌, nat_eq, nat_le, nat_lt}
use Rattle.model.specs.Mail.{pick, every}
use Rattle.model.specs.Device.{Device, Page, read_page, flushed, stopped, a_page, blank}

-- what the machine is told
pub data Event : Type 0 where
  on : ℕ → ℕ → ℕ → Event  -- power is there, memory is as at the start; the house's number, how many there are, how many pages it has
  said : List ℕ → Event  -- a command
  page : List ℕ → Event  -- the page that was asked for
  next : Event  -- the last act is done
  heard : List ℕ → Event  -- another house's letter
  lost : Event  -- there is no line to the other house any more

-- what it does
pub data Act : Type 0 where
  read : ℕ → Act
  write : ℕ → List ℕ → Act
  flush : Act
  shows : List ℕ → Act
  send : ℕ → List ℕ → Act  -- to a house, a letter of at most 4,096 bytes; or, by one who was written to, the reply
  done : Act
  refused : ℕ → Act

pub record Step : Type 0 where
  pub memory : List ℕ
  pub act : Act

-- the house, whatever it is like inside
pub record Engine : Type 0 where
  pub start : List ℕ
  pub step : List ℕ → Event → Step

pub record World : Type 0 where
  pub device : Device
  pub memory : List ℕ
  pub up : Bool

-- how a command went: what was shown, and how it ended: 0 done, a refusal, 1000 still running, 1001 a fault
pub record Ran : Type 0 where
  pub here : World
  pub there : World
  pub showed : List (List ℕ)
  pub end : ℕ

abbrev pub running : ℕ
running = 1000

abbrev pub fault : ℕ
fault = 1001

abbrev pub ran : World → World → List (List ℕ) → ℕ → Ran
ran w v ss e = record { here = w; there = v; showed = ss; end = e }

abbrev pub in_memory : World → List ℕ → World
in_memory w m = record { device = w.device; memory = m; up = w.up }

abbrev pub on_device : World → List ℕ → Device → World
on_device w m d = record { device = d; memory = m; up = w.up }

abbrev pub queued : Device → ℕ → Page → Device
queued d k p = record { pages = d.pages; queue = d.queue ++ record { at = k; page = p } ∷ [] }

abbrev pub writable : Device → ℕ → Page → Bool
writable d k p = nat_lt k (length d.pages) && a_page p

-- one who was written to works on the letter until it replies; it has 2^24 acts for that, and not to reply by then is a fault. A stop of the one who
-- wrote doesn't stop it
pub record Replied : Type 0 where
  pub world : World
  pub letter : List (List ℕ)  -- none if there was no reply
  pub cut : Bool  -- its acts ran out

abbrev pub a_letter : List ℕ → Bool
a_letter l = nat_le (length l) 4096 && every (λ b. ltb b 256) l

unfoldable pub reply_act : (World → Event → Replied) → World → List ℕ → Act → Replied
reply_act go v m (read k) = go (in_memory v m) (page (read_page v.device k))
reply_act go v m (write k p) = pick (writable v.device k p) (go (on_device v m (queued v.device k p)) next) (record { world = in_memory v m; letter = []; cut = false })
reply_act go v m flush = go (on_device v m (flushed v.device)) next
reply_act go v m (shows s) = record { world = in_memory v m; letter = []; cut = false }
reply_act go v m (send d l) = record { world = in_memory v m; letter = pick (a_letter l) (l ∷ []) []; cut = false }
reply_act go v m done = record { world = in_memory v m; letter = []; cut = false }
reply_act go v m (refused k) = record { world = in_memory v m; letter = []; cut = false }

unfoldable pub replies : ℕ → Engine → World → Event → Replied
replies zero e v ev = record { world = v; letter = []; cut = true }
replies (suc n) e v ev = reply_act (λ u ev₁. replies n e u ev₁) v (e.step v.memory ev).memory (e.step v.memory ev).act

-- a letter that came back, or none
abbrev pub answered : List (List ℕ) → Event
answered [] = lost
answered (b ∷ bs) = heard b

-- if nothing comes back the line is gone
abbrev pub carried : ℕ → List (List ℕ) → ℕ
carried k [] = 0
carried k (b ∷ bs) = k

-- what the one written to does with a letter. If the line carries it, it works until it replies. If the line doesn't, nothing happens, unless that house
-- falls there: then it has done so many acts of the letter and has no power
unfoldable pub heard_by : ℕ → ℕ → Engine → World → Event → Replied
heard_by zero zero e v ev = record { world = v; letter = []; cut = true }
heard_by zero (suc k) e v ev = replies 16777216 e v ev
heard_by (suc t) zero e v ev = record { world = record { device = (replies (suc t) e v ev).world.device; memory = (replies (suc t) e v ev).world.memory; up = false }; letter = []; cut = true }
heard_by (suc t) (suc k) e v ev = replies 16777216 e v ev

-- a command: acts, and letters that the line still carries
unfoldable pub sent : (ℕ → World → World → Event → List (List ℕ) → Ran) → ℕ → World → World → List (List ℕ) → Replied → Ran
sent go zero w v ss r = go 0 w r.world lost ss
sent go (suc k) w v ss r = pick r.cut (ran w r.world ss fault) (go (carried k r.letter) w r.world (answered r.letter) ss)

-- a refusal has a number below 1,000, and not 0: anything else is a fault
abbrev pub refusal_end : ℕ → ℕ
refusal_end k = pick (nat_le 1 k && nat_lt k 1000) k fault

unfoldable pub one_act : (ℕ → World → World → Event → List (List ℕ) → Ran) → (ℕ → Event → Replied) → ℕ → ℕ → World → World → List (List ℕ) → List ℕ → Act → Ran
one_act go by ls d w v ss m (read k) = go ls (in_memory w m) v (page (read_page w.device k)) ss
one_act go by ls d w v ss m (write k p) = pick (writable w.device k p) (go ls (on_device w m (queued w.device k p)) v next ss) (ran (in_memory w m) v ss fault)
one_act go by ls d w v ss m flush = go ls (on_device w m (flushed w.device)) v next ss
one_act go by ls d w v ss m (shows s) = go ls (in_memory w m) v next (ss ++ s ∷ [])
one_act go by ls d w v ss m (send c l) =
    pick (v.up && (c == d && a_letter l)) (sent go ls (in_memory w m) v ss (by ls (heard l))) (go ls (in_memory w m) v lost ss)
one_act go by ls d w v ss m done = ran (in_memory w m) v ss 0
one_act go by ls d w v ss m (refused k) = ran (in_memory w m) v ss (refusal_end k)

unfoldable pub runs : ℕ → Engine → ℕ → ℕ → ℕ → World → World → Event → List (List ℕ) → Ran
runs zero e t d ls w v ev ss = ran w v ss running
runs (suc n) e t d ls w v ev ss =
    one_act (λ ls₁ w₁ v₁ ev₁ ss₁. runs n e t d ls₁ w₁ v₁ ev₁ ss₁) (λ k ev₁. heard_by t k e v ev₁) ls d w v ss
    (e.step w.memory ev).memory (e.step w.memory ev).act

-- what can happen in the world: power comes; a command is said, with a line that carries so many letters; power stops in the middle of either,
-- after so many acts, and of the waiting writes so much is left; or it stops at the other house, at the first letter that the line doesn't carry, after so
-- many of that house's acts.
pub data Item : Type 0 where
  power : ℕ → Item
  power_stops : ℕ → ℕ → List ℕ → Item
  whole : ℕ → List ℕ → ℕ → Item
  stops : ℕ → List ℕ → ℕ → ℕ → List ℕ → Item
  falls : ℕ → List ℕ → ℕ → ℕ → List ℕ → Item

unfoldable pub flag : List Bool → ℕ → Bool
flag [] c = false
flag (u ∷ us) zero = u
flag (u ∷ us) (suc c) = flag us c

unfoldable pub set_flag : List Bool → ℕ → Bool → List Bool
set_flag [] c v = []
set_flag (u ∷ us) zero v = v ∷ us
set_flag (u ∷ us) (suc c) v = u ∷ set_flag us c v

abbrev pub not_up : List Bool → ℕ → Bool
not_up us c = nat_lt c (length us) && pick (flag us c) false true

-- power comes where there is none, and a command is said where there is
unfoldable pub proper : (ℕ → List ℕ → ℕ) → List Bool → List Item → Bool
proper peer us [] = true
proper peer us (power c ∷ is) = not_up us c && proper peer (set_flag us c true) is
proper peer us (power_stops c n cs ∷ is) = not_up us c && proper peer us is
proper peer us (whole c t ls ∷ is) = flag us c && proper peer us is
proper peer us (stops c t ls n cs ∷ is) = flag us c && proper peer (set_flag us c false) is
proper peer us (falls c t ls n cs ∷ is) = (flag us c && flag us (peer c t)) && proper peer (set_flag us (peer c t) false) is

abbrev pub no_world : World
no_world = record { device = record { pages = []; queue = [] }; memory = []; up = false }

unfoldable pub world_at : List World → ℕ → World
world_at [] c = no_world
world_at (v ∷ vs) zero = v
world_at (v ∷ vs) (suc c) = world_at vs c

unfoldable pub set_world : List World → ℕ → World → List World
set_world [] c v = []
set_world (u ∷ us) zero v = v ∷ us
set_world (u ∷ us) (suc c) v = u ∷ set_world us c v

abbrev pub powered : Engine → World → World
powered e v = record { device = v.device; memory = e.start; up = true }

abbrev pub dark : World → List ℕ → World
dark v cs = record { device = stopped v.device cs; memory = []; up = false }

-- a command as it ran for so many acts, with the other house that it has to do with, if there is one
abbrev pub fell_as : (ℕ → List ℕ → ℕ) → Engine → ℕ → ℕ → List World → ℕ → List ℕ → ℕ → Ran
fell_as peer e t n vs c text ls = runs n e t (peer c text) ls (world_at vs c) (world_at vs (peer c text)) (said text) []

abbrev pub ran_as : (ℕ → List ℕ → ℕ) → Engine → ℕ → List World → ℕ → List ℕ → ℕ → Ran
ran_as peer e n vs c text ls = fell_as peer e 0 n vs c text ls

abbrev pub worlds_after : (ℕ → List ℕ → ℕ) → List World → ℕ → List ℕ → Ran → World → List World
worlds_after peer vs c text r v = set_world (set_world vs (peer c text) r.there) c v

abbrev pub woken : Engine → ℕ → ℕ → ℕ → World → Ran
woken e n c hs v = runs n e 0 1000 0 (powered e v) no_world (on c hs (length v.device.pages)) []

-- beside plain houses: what may be shown, the end, and what is afterwards; and what a stop in the middle may leave, given what was shown
unfoldable pub Right : {S : Type 0} → (ℕ → List ℕ → ℕ) → (S → ℕ → List ℕ → ℕ → Bool → List (List ℕ) → ℕ → S → Type 0) → (S → ℕ → List ℕ → List (List ℕ) → S → Type 0) → Engine → List World → S → List Item → Type 0
Right peer may mid e vs s [] = zero ≡ zero
Right peer may mid e vs s (power c ∷ is) =
    (n : ℕ) × ((woken e n c (length vs) (world_at vs c)).end ≡ 0) × ((woken e n c (length vs) (world_at vs c)).showed ≡ [])
    × Right peer may mid e (set_world vs c (woken e n c (length vs) (world_at vs c)).here) s is
Right peer may mid e vs s (power_stops c n cs ∷ is) =
    (((woken e n c (length vs) (world_at vs c)).end ≡ 0) ⊎ ((woken e n c (length vs) (world_at vs c)).end ≡ 1000)) × ((woken e n c (length vs) (world_at vs c)).showed ≡ [])
    × Right peer may mid e (set_world vs c (dark (woken e n c (length vs) (world_at vs c)).here cs)) s is
Right {S} peer may mid e vs s (whole c text ls ∷ is) =
    (n : ℕ) × (s₁ : S)
    × may s c text ls (world_at vs (peer c text)).up (ran_as peer e n vs c text ls).showed (ran_as peer e n vs c text ls).end s₁
    × Right peer may mid e (worlds_after peer vs c text (ran_as peer e n vs c text ls) (ran_as peer e n vs c text ls).here) s₁ is
Right {S} peer may mid e vs s (stops c text ls n cs ∷ is) =
    (s₁ : S)
    × (may s c text ls (world_at vs (peer c text)).up (ran_as peer e n vs c text ls).showed (ran_as peer e n vs c text ls).end s₁
    ⊎ (((ran_as peer e n vs c text ls).end ≡ 1000) × mid s c text (ran_as peer e n vs c text ls).showed s₁))
    × Right peer may mid e (worlds_after peer vs c text (ran_as peer e n vs c text ls) (dark (ran_as peer e n vs c text ls).here cs)) s₁ is
Right {S} peer may mid e vs s (falls c text ls t cs ∷ is) =
    (n : ℕ) × (s₁ : S)
    × may s c text ls (world_at vs (peer c text)).up (fell_as peer e t n vs c text ls).showed (fell_as peer e t n vs c text ls).end s₁
    × Right peer may mid e (set_world (worlds_after peer vs c text (fell_as peer e t n vs c text ls) (fell_as peer e t n vs c text ls).here) (peer c text) (dark (fell_as peer e t n vs c text ls).there cs)) s₁ is

unfoldable pub so_many : {A : Type 0} → ℕ → A → List A
so_many zero x = []
so_many (suc n) x = x ∷ so_many n x

abbrev pub new_world : ℕ → World
new_world pages = record { device = record { pages = blank pages; queue = [] }; memory = []; up = false }

-- memory is all 0 at the start; it never grows, nor do its numbers beyond 64 bits
unfoldable pub all_small : List ℕ → Bool
all_small ms = every (λ m. ltb m 18446744073709551616) ms

unfoldable pub Steady : Engine → Type 0
Steady e =
    (length e.start ≤ 262144) × (every (λ m. nat_eq m 0) e.start ≡ true)
    × ((m : List ℕ) (ev : Event) → (length (e.step m ev).memory ≡ length m) × (all_small m ≡ true → all_small (e.step m ev).memory ≡ true))
