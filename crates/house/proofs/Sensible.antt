-- What it comes to that a memory is sensible.
use Rattle.std.proofs.Common.{◌≡◌, ℕ, ◌+◌, ◌-◌, ◌*◌, ◌/◌, ◌<◌, ◌≤◌, true, false, ◌&&◌, eqb, ltb, leb, List, length, sym, inl, inr, arith}
use Rattle.std.proofs.lemmas.Bool.{and_parts, and_from, eqb-true, ltb-true, leb-true, eq-eqb, lt-ltb, le-leb, cases_Bool}
use Rattle.pages.specs.Geometry.{directory_pages}
use Rattle.house.specs.Memory.{memory_len, houses_count, pages_count, area_of, people_of, boxes_count, sensible}
use Rattle.house.specs.Does.{Ready}

pub record Fits (m : List ℕ) : Type 0 where
  pub least : 256 ≤ pages_count m
  pub most : pages_count m ≤ 1048576
  pub long : length m ≡ 262144
  pub ready : Ready (pages_count m) m

module _ (m : List ℕ) where
  pub sensible_fits : sensible m ≡ true → Fits m
  unfolding sensible
  sensible_fits h =
      let (a, b) = and_parts (eqb (length m) memory_len && (leb 256 (pages_count m) && leb (pages_count m) 1048576)) ((leb (houses_count m) 16 && ltb (area_of m) 2) && (leb (people_of m) 64 && leb (864 + 12 * boxes_count m) (64 * directory_pages (pages_count m)))) h in
      let (long, sized) = and_parts (eqb (length m) memory_len) (leb 256 (pages_count m) && leb (pages_count m) 1048576) a in
      let (least, most) = and_parts (leb 256 (pages_count m)) (leb (pages_count m) 1048576) sized in
      let (ways, counts) = and_parts (leb (houses_count m) 16 && ltb (area_of m) 2) (leb (people_of m) 64 && leb (864 + 12 * boxes_count m) (64 * directory_pages (pages_count m))) b in
      let (houses, area) = and_parts (leb (houses_count m) 16) (ltb (area_of m) 2) ways in
      let (people, boxes) = and_parts (leb (people_of m) 64) (leb (864 + 12 * boxes_count m) (64 * directory_pages (pages_count m))) counts in
      record {
        least = leb-true 256 (pages_count m) least;
        most = leb-true (pages_count m) 1048576 most;
        long = eqb-true (length m) memory_len long;
        ready = record {
          houses_few = leb-true (houses_count m) 16 houses;
          area_known = ltb-true (area_of m) 2 area;
          people_few = leb-true (people_of m) 64 people;
          boxes_fit = leb-true (864 + 12 * boxes_count m) (64 * directory_pages (pages_count m)) boxes;
        };
      }

  pub fits_sensible : Fits m → sensible m ≡ true
  unfolding sensible
  fits_sensible f =
      and_from (eqb (length m) memory_len && (leb 256 (pages_count m) && leb (pages_count m) 1048576)) ((leb (houses_count m) 16 && ltb (area_of m) 2) && (leb (people_of m) 64 && leb (864 + 12 * boxes_count m) (64 * directory_pages (pages_count m))))
      (and_from (eqb (length m) memory_len) (leb 256 (pages_count m) && leb (pages_count m) 1048576) (eq-eqb (length m) memory_len f.long)
      (and_from (leb 256 (pages_count m)) (leb (pages_count m) 1048576) (le-leb 256 (pages_count m) f.least) (le-leb (pages_count m) 1048576 f.most)))
      (and_from (leb (houses_count m) 16 && ltb (area_of m) 2) (leb (people_of m) 64 && leb (864 + 12 * boxes_count m) (64 * directory_pages (pages_count m)))
      (and_from (leb (houses_count m) 16) (ltb (area_of m) 2) (le-leb (houses_count m) 16 f.ready.houses_few) (lt-ltb (area_of m) 2 f.ready.area_known))
      (and_from (leb (people_of m) 64) (leb (864 + 12 * boxes_count m) (64 * directory_pages (pages_count m))) (le-leb (people_of m) 64 f.ready.people_few) (le-leb (864 + 12 * boxes_count m) (64 * directory_pages (pages_count m)) f.ready.boxes_fit)))

  pub not_sensible : (Fits m → ⊥) → false ≡ sensible m
  not_sensible n = elim (cases_Bool (sensible m)) [ inl e ↦ absurd (n (sensible_fits e)) | inr e ↦ sym e ]

-- how many boxes there is room for, as the code counts it
pub enough : (b w d : ℕ) → 896 ≤ w → w ≡ d → b ≤ (w - 864) / 12 → 864 + 12 * b ≤ d
enough b w d l e h = omega arith

pub too_many : (b w d : ℕ) → 896 ≤ w → w ≡ d → 864 + 12 * b ≤ d → (w - 864) / 12 < b → ⊥
too_many b w d l e f h = omega arith
