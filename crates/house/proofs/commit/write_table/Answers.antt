-- The page goes to the twin that the bits to come point at, which is there, since the directory lies in the table.
use Rattle.std.proofs.Common.{◌+◌, ◌*◌, ◌<◌, refl, arith}
use Rattle.pages.specs.Words.{part, bytes_of}
use Rattle.pages.specs.Geometry.{table_place}
use Rattle.pages.proofs.Geometry.{directory_pages_most}
use Rattle.house.specs.Memory.{coming_of}
use Rattle.house.proofs.Acts.{told_write}
use Rattle.house.proofs.Writes.{lent_part, stored}
use Rattle.house.proofs.commit.write_table.Goals as goal

pub returns : goal.returns
returns c =
    let m = c.args.memory.now in
    let P = c.args.geometry.now.pages in
    let t = c.args.t in
    let few : t < 3086 = omega (arith, directory_pages_most P) in (
      c.store-2.ensures,
      told_write (table_place P (coming_of P m) t) c.coming_place-place.result (bytes_of (part m (2272 + 64 * t) 64)) c.args.out.now c.store.new.out
          c.coming_place-place.ensures
          (stored m c.args.out.now c.store.new.out (2272 + 64 * t) 64 c.store.result _ (lent_part m (2272 + 64 * t) 64 64 refl) (omega arith) (omega arith) c.store.ensures.fits c.store.ensures.written),
    )
