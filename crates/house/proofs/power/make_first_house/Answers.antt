-- The header, the first directory behind it, and the two records that are touched.
use Rattle.std.proofs.Common.{◌≡◌, ℕ, ◌+◌, ◌*◌, List, [], ◌∷◌, refl, ap, ◌∙◌, arith}
use borrow.Rule.Slice.PartMut.{put_mid}
use Rattle.pages.specs.Words.{patched}
use Rattle.pages.specs.Geometry.{directory_pages}
use Rattle.house.specs.Memory.{houses_count}
use Rattle.house.specs.Machine.{touch_record, first_house_made}
use Rattle.house.proofs.Powers.{first_written}
use Rattle.house.proofs.power.make_first_house.Goals as goal

pub returns : goal.returns
unfolding first_house_made
returns c =
    let m = c.args.memory.now in
    let P = c.args.geometry.now.pages in
    let hs : List ℕ = 1 ∷ 0 ∷ 1 ∷ 1 ∷ 0 ∷ 0 ∷ (776 + 64 * houses_count m) ∷ [] in
    let headed : put_mid 64 7 m c.copy_from_slice.new.self ≡ patched m 64 hs = ap (put_mid 64 7 m) c.copy_from_slice.ensures.after in
    let directed = first_written m (put_mid 64 7 m c.copy_from_slice.new.self) hs (64 * directory_pages P) c.directory_range.result.start c.directory_range.result.end c.first.result c.first.new.words
    (omega arith) c.directory_range.ensures.start c.directory_range.ensures.end c.directory_range.ensures.some c.directory_range.ensures.most refl headed c.first.ensures.fits c.first.ensures.written in
    c.touch_record-2.ensures ∙ ap (touch_record P 864) (c.touch_record.ensures ∙ ap (touch_record P 0) directed)
