use Rattle.std.proofs.Common.{ap, sym}
use Rattle.model.specs.Mail.{each}
use Rattle.days.specs.Held.{write_of}
use Rattle.days.proofs.Pages.{blank_filled, device_same, zeros_are}
use Rattle.days.proofs.device.Device.new.Goals as goal

pub returns : goal.returns
returns c =
    let empty = c.in_ok-empty.ensures in
    device_same (blank_filled _ _ _ _ _ empty.items empty.len (sym (zeros_are 512)) c.in_ok-resize.ensures.items) (ap (each write_of) c.new.ensures.items)
