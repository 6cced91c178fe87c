-- What the functions of a step promise: that they do a step of the definition, and which memories they are made for.
use Rattle.std.specs.Prelude.{◌≡◌, ℕ, ◌+◌, ◌*◌, ◌<◌, ◌≤◌, List, Ok, Err, Result, nat_lt}
use Rattle.model.specs.Mail.{pick}
use Rattle.model.specs.Run.{Step, read}
use Rattle.pages.specs.Words.{patched}
use Rattle.pages.specs.Bits.{touched}
use Rattle.pages.specs.Geometry.{directory_pages, table_place}
use Rattle.house.specs.declared.refusal.Refusal.{Refusal}
use Rattle.house.specs.declared.phase.Phase.TheVariants.{ReadDirectory}
use Rattle.house.specs.declared.Told.{Told}
use Rattle.house.specs.declared.Told.TheVariants.{No}
use Rattle.house.specs.Memory.{houses_count, area_of, people_of, boxes_count, counting_of, coming_of, directory_of}
use Rattle.house.specs.Machine.{go, refuse, shows_boxes}
use Rattle.house.specs.Entry.{ActTold}
use Rattle.house.specs.Told.{refusal_number}

-- the memory and the act of a step
abbrev pub Does : Step → Told → (out memory₁ out₁ : List ℕ) → Type 0
Does s r out memory₁ out₁ = (memory₁ ≡ s.memory) × ActTold s.act r out out₁

-- a refusal is told by its number
abbrev pub told_result : Result Told Refusal → Told
told_result (Ok told) = told
told_result (Err refusal) = No (refusal_number refusal)

-- a memory whose counts its regions have room for
pub record Ready (P : ℕ) (m : List ℕ) : Type 0 where
  pub houses_few : houses_count m ≤ 16
  pub area_known : area_of m < 2
  pub people_few : people_of m ≤ 64
  pub boxes_fit : 864 + 12 * boxes_count m ≤ 64 * directory_pages P

-- one page of the directory is to change
abbrev pub page_touched : ℕ → ℕ → List ℕ → List ℕ
page_touched P t m = patched m 1184 (touched (counting_of P m) (coming_of P m) t)

-- a step that leaves the lent row as it is
abbrev pub Quietly : Step → Told → List ℕ → Type 0
Quietly s r memory₁ = (memory₁ ≡ s.memory) × ((out : List ℕ) → ActTold s.act r out out)

-- a page of the directory is asked for
abbrev pub directory_asked : ℕ → ℕ → List ℕ → Step
directory_asked P t m = go (ReadDirectory t) (read (table_place P (coming_of P m) t)) m

-- lent words as the directory of a memory
pub record Lends (P : ℕ) (m : List ℕ) (words : List ℕ) (people boxes : ℕ) : Type 0 where
  pub words_are : words ≡ directory_of P m
  pub people_are : people ≡ people_of m
  pub boxes_are : boxes ≡ boxes_count m

-- the boxes of a person are asked for
abbrev pub boxes_asked : ℕ → ℕ → List ℕ → Step
boxes_asked P a m = pick (nat_lt a (people_of m)) (shows_boxes P a 0 m) (refuse 3 m)
