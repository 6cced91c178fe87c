-- The header with the other area, and zeros behind it.
use Rattle.std.proofs.Common.{◌≡◌, ℕ, ◌-◌, List, [], ◌∷◌, ◌++◌, length, set, refl, ap, ◌∙◌, arith}
use Rattle.model.specs.Device.{zeros}
use Rattle.pages.specs.Words.{part, patched, bytes_of}
use Rattle.pages.proofs.Words.{set_is_patched, length_patched, length_part, length_bytes_of}
use Rattle.house.specs.declared.phase.Phase.TheVariants.{FlushHeader}
use Rattle.house.specs.Memory.{area_of, header_of, in_phase}
use Rattle.house.specs.Machine.{header_written}
use Rattle.house.proofs.Acts.{told_write}
use Rattle.house.proofs.Writes.{stored, half_page}
use Rattle.house.proofs.commit.write_header.Goals as goal

pub returns : goal.returns
unfolding header_written
returns c =
    let m = c.args.memory.now in
    let out = c.args.out.now in
    let new : List ℕ = patched m 65 ((1 - area_of m) ∷ []) in
    let turned : set m 65 (1 - area_of m) ≡ new = set_is_patched m 65 (1 - area_of m) (omega arith) in
    let long : length new ≡ 262144 = length_patched m 65 ((1 - area_of m) ∷ []) (omega arith) ∙ omega arith in
    let row = stored new out c.store.new.out 64 32 c.store.result (part (set m 65 (1 - area_of m)) 64 32) (ap (λ l. part l 64 32) turned) (omega arith) (omega arith) c.store.ensures.fits c.store.ensures.written in
    let kept : length c.store.new.out ≡ length out = c.store.auto.out in
    let half : length (part c.store.new.out 256 256) ≡ 256 = length_part c.store.new.out 256 256 (omega arith) in
    let size : length (bytes_of (header_of new)) ≡ 256 = length_bytes_of (header_of new) ∙ omega (arith, length_part new 64 32 (omega arith)) in (
      c.store-2.ensures ∙ ap (in_phase FlushHeader) turned,
      told_write 0 0 (bytes_of (header_of new) ++ zeros 256) out _ refl
          (half_page (bytes_of (header_of new)) out c.store.new.out c.blank.new.bytes size (omega arith) row (c.blank.ensures ∙ ap zeros half)),
    )
