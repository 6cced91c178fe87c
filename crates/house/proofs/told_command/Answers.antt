-- At rest the command is obeyed; otherwise it is out of turn.
use Rattle.std.proofs.Common.{refl, ◌∙◌}
use Rattle.house.specs.declared.refusal.Refusal.TheVariants.{NoCommand}
use Rattle.house.specs.declared.phase.Phase.TheVariants.{Idle}
use Rattle.house.specs.Machine.{said_told}
use Rattle.house.proofs.Acts.{does_as, refused_does, handed_on}
use Rattle.house.proofs.Turns.{geometry_there, no_geometry, said_refused, said_taken, said_out}
use Rattle.house.proofs.told_command.Goals as goal

pub returns-in_err-geometry : goal.returns-in_err-geometry
returns-in_err-geometry c =
    let none = handed_on c.sensible.result NoCommand c.in_err-geometry.field-0.0 c.from_residual.result c.in_err-geometry.ensures.value c.from_residual.ensures.1 in
    rw none.1 (refused_does c.args.memory.now c.args.out.now 1 1 refl (said_refused c.args.memory.now c.args.text.now (no_geometry c.args.memory.now c.sensible.result c.sensible.ensures.known none.0)))

pub returns-in_default : goal.returns-in_default
returns-in_default c =
    let m = c.args.memory.now in
    let P = c.in_ok-geometry.geometry.pages in
    refused_does m c.args.out.now 1 1 refl
    (said_taken m P c.load.result c.args.text.now (geometry_there c.args.memory.now c.sensible.result c.in_ok-geometry.geometry c.sensible.ensures.known c.sensible.ensures.ready c.in_ok-geometry.ensures.ok_part).0 (geometry_there c.args.memory.now c.sensible.result c.in_ok-geometry.geometry c.sensible.ensures.known c.sensible.ensures.ready c.in_ok-geometry.ensures.ok_part).1.0 c.load.ensures
    ∙ said_out P c.load.result c.args.text.now m c.in_default.not-Idle)

pub returns : goal.returns
unfolding said_told
returns c =
    does_as _ _ _ _ (said_taken c.args.memory.now c.in_ok-geometry.geometry.pages Idle c.args.text.now (geometry_there c.args.memory.now c.sensible.result c.in_ok-geometry.geometry c.sensible.ensures.known c.sensible.ensures.ready c.in_ok-geometry.ensures.ok_part).0 (geometry_there c.args.memory.now c.sensible.result c.in_ok-geometry.geometry c.sensible.ensures.known c.sensible.ensures.ready c.in_ok-geometry.ensures.ok_part).1.0 c.in-Idle.ensures)
    c.obey.ensures
