use Rattle.std.proofs.Common.{ap, ◌∙◌}
use Rattle.model.specs.Mail.{each}
use Rattle.model.specs.Device.{stopped as left_by}
use Rattle.days.specs.Held.{leaves_number}
use Rattle.days.proofs.device.Device.stopped.Goals as goal

pub returns : goal.returns
returns c =
    let choices = each leaves_number c.as_slice.result.now in
    (choices, c.stop.ensures ∙ ap (λ d. left_by d choices) c.in_ok-pages.ensures.cases)
