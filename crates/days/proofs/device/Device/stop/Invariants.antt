use Rattle.std.proofs.Common.{◌≡◌, drop, length, vec_items}
use Rattle.model.specs.Mail.{each}
use Rattle.model.specs.Device.{left}
use Rattle.days.specs.Held.{write_of, leaves_number}
use Rattle.days.proofs.device.Device.stop.Given as goal

abbrev pub invariant-loop-write : goal.invariant-loop-write
invariant-loop-write l =
    left (vec_items l.fn.self.pages) (each write_of (vec_items l.fn.self.waiting)) (each leaves_number l.choices)
    ≡ left (vec_items l.self.1.0) (each write_of (drop (length l.yielded) (vec_items l.fn.self.waiting))) (each leaves_number (drop (length l.yielded) l.choices))
