-- A house at rest: what its pages hold while it has no power, and what its memory holds beside them while it has.
use Rattle.std.proofs.Common.{◌≡◌, ℕ, ◌*◌, ◌<◌, ◌≤◌, true, leb, ◌≢◌, ◌⊎◌, List, [], ◌∷◌, length, get_or}
use Rattle.model.specs.Mail.{flat, every}
use Rattle.model.specs.House.{House, weight}
use Rattle.model.specs.Device.{Device, Page, a_page}
use Rattle.model.specs.Run.{World, all_small}
use Rattle.model.specs.Promise.{first_house}
use Rattle.pages.specs.Words.{part}
use Rattle.pages.specs.Bits.{bit}
use Rattle.pages.specs.Geometry.{selector_pages, directory_pages, table_pages}
use Rattle.pages.specs.Store.{Image, Kept, version, area}
use Rattle.pages.specs.Commit.{first_image}
use Rattle.mailboxes.specs.Directory.{count_up, house_of, Sound}
use Rattle.house.specs.declared.phase.Phase.TheVariants.{Idle}
use Rattle.house.proofs.Regions.{Mem}

-- every page has 512 bytes
abbrev pub WholePages : List Page → Type 0
WholePages ps = every a_page ps ≡ true

-- nobody has more boxes than they may
abbrev pub FewBoxes : House → Type 0
FewBoxes h = every (λ p. leb (length p.boxes) 256) h.people ≡ true

-- the words of the directory, page after page
abbrev pub directory_on : ℕ → Image → List ℕ
directory_on P s = flat s.table (count_up 0 (directory_pages P))

-- a header and a directory stand for a house
pub record Stands (P n : ℕ) (header dir : List ℕ) (h : House) : Type 0 where
  pub area_small : get_or header 1 0 < 2
  pub sound : Sound (get_or header 2 0) (get_or header 3 0) dir
  pub house_is : h ≡ house_of n (get_or header 2 0) (get_or header 3 0) dir
  pub weight_is : get_or header 6 0 ≡ weight h
  pub light : weight h ≤ 128 * P
  pub few_boxes : FewBoxes h

-- an image of which a commit has been made
pub record CommittedImage (P n : ℕ) (s : Image) (h : House) : Type 0 where
  pub some_version : version s ≢ 0
  pub header_long : length s.header ≡ 32
  pub header_small : all_small s.header ≡ true
  pub selectors_long : length s.selectors ≡ 64 * selector_pages P
  pub selectors_small : all_small s.selectors ≡ true
  pub table_long : (t : ℕ) → t < table_pages P → length (s.table t) ≡ 64
  pub table_small : (t : ℕ) → t < table_pages P → all_small (s.table t) ≡ true
  pub stands : Stands P n s.header (directory_on P s) h

-- what an image stands for: the first house before the first commit, and then what it says
abbrev pub Stored : ℕ → ℕ → Image → House → Type 0
Stored P n s h = ((s ≡ first_image P) × (h ≡ first_house n)) ⊎ CommittedImage P n s h

-- without power
pub record Down (P n : ℕ) (h : House) (d : Device) : Type 0 where
  pub image : Image
  pub kept : Kept P image d.pages
  pub whole_pages : WholePages d.pages
  pub still : d.queue ≡ []
  pub stored : Stored P n image h

-- The memory beside an image: the selector words that count are the image's, and the pages of the directory whose bits agree are, too; other pages
-- are not touched.
pub record Beside (P : ℕ) (s : Image) (counting coming dir : List ℕ) : Type 0 where
  pub counts : counting ≡ s.selectors
  pub clean : (t : ℕ) → t < directory_pages P → bit counting t ≡ bit coming t → s.table t ≡ part dir (64 * t) 64
  pub slots_clean : (t : ℕ) → directory_pages P ≤ t → t < table_pages P → bit counting t ≡ bit coming t

-- with power, at rest
pub record Up (P n : ℕ) (h : House) (v : World) : Type 0 where
  pub powered_up : v.up ≡ true
  pub down : Down P n h v.device
  pub house_number : ℕ
  pub shown : ℕ
  pub header : List ℕ
  pub counting : List ℕ
  pub coming : List ℕ
  pub dir : List ℕ
  pub memory_is : Mem P Idle (house_number ∷ n ∷ P ∷ shown ∷ []) header counting coming dir v.memory
  pub beside : Beside P down.image counting coming dir
  pub area_is : get_or header 1 0 ≡ area down.image
  pub version_one : get_or header 0 0 ≢ 0
  pub stands : Stands P n header dir h
