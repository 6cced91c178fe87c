use Rattle.std.proofs.Common.{arith, refl}
use Rattle.days.specs.Held.{write_of}
use Rattle.days.proofs.Pages.{placed_there, placed_away}
use Rattle.days.proofs.device.place.Goals as goal

pub returns-in-Some : goal.returns-in-Some
returns-in-Some c =
    placed_there _ c.args.leaves (write_of c.args.write.now) _ _ (omega (arith, c.in-Some.ensures.variant.0 refl)) c.in-Some.ensures.value c.put.ensures

pub returns-in_default : goal.returns-in_default
returns-in_default c = placed_away _ c.args.leaves (write_of c.args.write.now) c.in_default.ensures.item.3
