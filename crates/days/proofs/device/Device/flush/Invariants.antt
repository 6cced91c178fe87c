use Rattle.std.proofs.Common.{◌≡◌, drop, vec_items}
use Rattle.model.specs.Mail.{each}
use Rattle.model.specs.Device.{all_written}
use Rattle.days.specs.Held.{write_of}
use Rattle.days.proofs.device.Device.flush.Given as goal

abbrev pub invariant-loop-write : goal.invariant-loop-write
invariant-loop-write l =
    all_written (vec_items l.fn.self.pages) (each write_of l.write-items) ≡ all_written (vec_items l.self.1.0) (each write_of (drop l.write-index l.write-items))
