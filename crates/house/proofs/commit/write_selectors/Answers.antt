-- The page goes into the other area, which is there.
use Rattle.std.proofs.Common.{◌+◌, ◌-◌, ◌*◌, ◌<◌, ◌&&◌, ltb, sym, refl, ◌∙◌, arith}
use Rattle.std.proofs.lemmas.Bool.{and_from, lt-ltb}
use Rattle.pages.specs.Words.{part, bytes_of}
use Rattle.pages.specs.Geometry.{selector_pages, selector_place}
use Rattle.pages.proofs.Geometry.{selector_pages_most}
use Rattle.house.specs.Memory.{area_of}
use Rattle.house.proofs.Acts.{some_place, told_write}
use Rattle.house.proofs.Writes.{lent_part, stored}
use Rattle.house.proofs.commit.write_selectors.Goals as goal

pub returns : goal.returns
returns c =
    let m = c.args.memory.now in
    let P = c.args.geometry.now.pages in
    let q = c.args.q in
    let few : q < 17 = omega (arith, selector_pages_most P c.args.geometry.now.most) in
    let here = and_from (ltb (1 - area_of m) 2) (ltb q (selector_pages P)) (lt-ltb (1 - area_of m) 2 (omega arith)) (lt-ltb q (selector_pages P) c.requires.1) in (
      c.store-2.ensures,
      told_write (selector_place P (1 - area_of m) q) c.unwrap-place.result (bytes_of (part m (1184 + 64 * q) 64)) c.args.out.now c.store.new.out
          (some_place (ltb (1 - area_of m) 2 && ltb q (selector_pages P)) _ c.unwrap-place.result here (sym c.unwrap-place.ensures ∙ c.selector_place.ensures))
          (stored m c.args.out.now c.store.new.out (1184 + 64 * q) 64 c.store.result _ (lent_part m (1184 + 64 * q) 64 64 refl) (omega arith) (omega arith) c.store.ensures.fits c.store.ensures.written),
    )
