-- A commit, as acts on the device, and what it promises: cut off anywhere, the pages come up as before or as after.
use Rattle.std.specs.Prelude.{◌≡◌, ℕ, zero, suc, ◌+◌, ◌-◌, ◌*◌, ◌<◌, ◌≤◌, Bool, true, ◌≢◌, ◌⊎◌, List, [], ◌∷◌, ◌++◌, length, take}
use Rattle.model.specs.Mail.{each}
use Rattle.model.specs.Device.{Device, Page, page_at, read_page, flushed, half, stopped, zeros, blank}
use Rattle.model.specs.Run.{Act, read, write, flush, shows, send, done, refused, queued}
use Rattle.pages.specs.Words.{bytes_of, part}
use Rattle.pages.specs.Bits.{bit}
use Rattle.pages.specs.Geometry.{table_pages, selector_pages, selector_place, table_place, body_place}
use Rattle.pages.specs.Store.{Image, Kept, version, area}

-- before the first commit: what pages of zeros keep
abbrev pub first_image : ℕ → Image
first_image P = record { header = zeros 32; selectors = zeros (64 * selector_pages P); table = λ t. zeros 64 }

unfoldable pub BlankKept : Type 0
BlankKept = (P : ℕ) → 256 ≤ P → Kept P (first_image P) (blank P)

-- a place that holds nothing of an image: not the header, no selector page of its area, and no twin that its bits point at
pub record Spare (P : ℕ) (s : Image) (k : ℕ) : Type 0 where
  pub no_header : k ≢ zero
  pub no_selectors : version s ≢ zero → (q : ℕ) → q < selector_pages P → k ≢ selector_place P (area s) q
  pub no_table : (t : ℕ) → t < table_pages P → k ≢ table_place P s.selectors t

-- what a body page is to hold is left open: a test for each
abbrev pub BodiesKept : ℕ → (ℕ → Page → Bool) → List Page → Type 0
BodiesKept P good ps = (b : ℕ) → body_place P b < P → good b (page_at ps (body_place P b)) ≡ true

-- pages keep an image and its bodies
abbrev pub Counts : ℕ → Image → (ℕ → Page → Bool) → List Page → Type 0
Counts P s good ps = Kept P s ps × BodiesKept P good ps

-- of all acts only writes and flushes change the device
unfoldable pub after : Device → Act → Device
after d (read k) = d
after d (write k p) = queued d k p
after d flush = flushed d
after d (shows r) = d
after d (send h l) = d
after d done = d
after d (refused r) = d

unfoldable pub after_all : Device → List Act → Device
after_all d [] = d
after_all d (a ∷ rest) = after_all (after d a) rest

-- A write harms nothing that counts if it goes to a spare place, and a body stays good by all of it and by its first half.
abbrev pub HarmsNothing : ℕ → Image → (ℕ → Page → Bool) → Act → Type 0
HarmsNothing P s good (read k) = Unit {0}
HarmsNothing P s good (write k p) =
    Spare P s k × ((b : ℕ) → k ≡ body_place P b → (q : Page) → good b q ≡ true → (good b p ≡ true) × (good b (half p q) ≡ true))
HarmsNothing P s good flush = Unit {0}
HarmsNothing P s good (shows r) = Unit {0}
HarmsNothing P s good (send h l) = Unit {0}
HarmsNothing P s good done = Unit {0}
HarmsNothing P s good (refused r) = Unit {0}

abbrev pub Each : {A : Type 0} → (A → Type 0) → List A → Type 0
Each Φ [] = Unit {0}
Each Φ (x ∷ xs) = Φ x × Each Φ xs

abbrev pub In : ℕ → List ℕ → Type 0
In t [] = ⊥
In t (u ∷ us) = (t ≡ u) ⊎ In t us

-- n numbers from a on
unfoldable pub from : ℕ → ℕ → List ℕ
from a zero = []
from a (suc n) = a ∷ from (suc a) n

abbrev pub table_write : ℕ → Image → ℕ → Act
table_write P s t = write (table_place P s.selectors t) (bytes_of (s.table t))

abbrev pub selector_write : ℕ → Image → ℕ → Act
selector_write P s q = write (selector_place P (area s) q) (bytes_of (part s.selectors (64 * q) 64))

-- what a command writes before it commits, and its commit: the table pages ts, the selector pages, a flush, the header, a flush
abbrev pub change : ℕ → Image → List Act → List ℕ → Page → List Act
change P s before ts header =
    before ++ each (table_write P s) ts ++ each (selector_write P s) (from zero (selector_pages P)) ++ flush ∷ write zero header ∷ flush ∷ []

-- A change from s to s' is sound: the other area is to count; what is written before the commit harms nothing; the commit writes table pages whose
-- bits were turned, and reading shows all other table pages, and the bodies, as they are to be.
pub record Sound (P : ℕ) (s s' : Image) (good good' : ℕ → Page → Bool) (d : Device) (before : List Act) (ts : List ℕ) (header : Page) : Type 0 where
  pub size : 256 ≤ P
  pub old_area : area s < 2
  pub new_area : area s' ≡ 1 - area s
  pub counts : Counts P s good d.pages
  pub still : d.queue ≡ []
  pub harmless : Each (HarmsNothing P s good) before
  pub turned : Each (λ t. (t < table_pages P) × (bit s'.selectors t ≢ bit s.selectors t)) ts
  pub table_shown : (t : ℕ) → t < table_pages P → In t ts ⊎ (read_page (after_all d before) (table_place P s'.selectors t) ≡ bytes_of (s'.table t))
  pub bodies_shown : BodiesKept P good' (flushed (after_all d before)).pages
  pub header_right : take 256 header ≡ bytes_of s'.header
  pub header_long : 256 ≤ length header

-- Cut off after n acts, the pages keep the old image until the first flush is done, one of the two while the header waits, and then the new one.
pub record Cut (old new : Type 0) (acts n : ℕ) : Type 0 where
  pub early : n + 2 ≤ acts → old
  pub between : n + 1 ≡ acts → old ⊎ new
  pub late : acts ≤ n → new

unfoldable pub CommitAtomic : Type 0
CommitAtomic =
    (P : ℕ) (s s' : Image) (good good' : ℕ → Page → Bool) (d : Device) (before : List Act) (ts : List ℕ) (header : Page) →
    Sound P s s' good good' d before ts header → (n : ℕ) (cs : List ℕ) →
    Cut (Counts P s good (stopped (after_all d (take n (change P s' before ts header))) cs).pages)
    (Counts P s' good' (stopped (after_all d (take n (change P s' before ts header))) cs).pages) (length (change P s' before ts header)) n
