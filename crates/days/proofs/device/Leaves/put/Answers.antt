use Rattle.std.proofs.Common.{◌++◌, drop, sym, ap, ◌∙◌}
use Rattle.model.specs.Device.{half}
use Rattle.days.specs.Held.{left_of}
use Rattle.days.proofs.device.Leaves.put.Goals as goal

pub returns-in-Half : goal.returns-in-Half
unfolding half
returns-in-Half c =
    ap (λ bs. bs ++ drop 256 c.args.page.now) c.copy_from_slice.ensures.after
    ∙ ap (λ l. left_of l c.args.new.now c.args.page.now) (sym c.in-Half.is)
