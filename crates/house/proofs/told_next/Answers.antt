-- The phase says what comes next; otherwise it is out of turn.
use Rattle.std.proofs.Common.{refl, ◌∙◌}
use Rattle.house.specs.declared.refusal.Refusal.TheVariants.{NoCommand}
use Rattle.house.specs.declared.phase.Phase.TheVariants.{ShowBoxes, WriteTable, WriteSelectors, WriteHeader, FlushHeader, Committed, Shown}
use Rattle.house.specs.Machine.{next_told}
use Rattle.house.proofs.Acts.{does_as, refused_does, told_flush, told_done, handed_on}
use Rattle.house.proofs.Turns.{geometry_there, no_geometry, next_refused, next_taken, next_out}
use Rattle.house.proofs.told_next.Goals as goal

pub returns-in_err-geometry : goal.returns-in_err-geometry
returns-in_err-geometry c =
    let none = handed_on c.sensible.result NoCommand c.in_err-geometry.field-0.0 c.from_residual.result c.in_err-geometry.ensures.value c.from_residual.ensures.1 in
    rw none.1 (refused_does c.args.memory.now c.args.out.now 1 1 refl (next_refused c.args.memory.now (no_geometry c.args.memory.now c.sensible.result c.sensible.ensures.known none.0)))

pub returns-in-ShowBoxes : goal.returns-in-ShowBoxes
unfolding next_told
returns-in-ShowBoxes c =
    does_as _ _ _ _ (next_taken c.args.memory.now c.in_ok-geometry.geometry.pages (ShowBoxes c.in-ShowBoxes.person c.in-ShowBoxes.from) (geometry_there c.args.memory.now c.sensible.result c.in_ok-geometry.geometry c.sensible.ensures.known c.sensible.ensures.ready c.in_ok-geometry.ensures.ok_part).0 (geometry_there c.args.memory.now c.sensible.result c.in_ok-geometry.geometry c.sensible.ensures.known c.sensible.ensures.ready c.in_ok-geometry.ensures.ok_part).1.0 c.in-ShowBoxes.ensures)
    c.show_box.ensures

pub returns-in-WriteTable : goal.returns-in-WriteTable
unfolding next_told
returns-in-WriteTable c =
    does_as _ _ _ _ (next_taken c.args.memory.now c.in_ok-geometry.geometry.pages (WriteTable c.in-WriteTable.from) (geometry_there c.args.memory.now c.sensible.result c.in_ok-geometry.geometry c.sensible.ensures.known c.sensible.ensures.ready c.in_ok-geometry.ensures.ok_part).0 (geometry_there c.args.memory.now c.sensible.result c.in_ok-geometry.geometry c.sensible.ensures.known c.sensible.ensures.ready c.in_ok-geometry.ensures.ok_part).1.0 c.in-WriteTable.ensures)
    c.commit.ensures

pub returns-in-WriteSelectors : goal.returns-in-WriteSelectors
unfolding next_told
returns-in-WriteSelectors c =
    does_as _ _ _ _ (next_taken c.args.memory.now c.in_ok-geometry.geometry.pages (WriteSelectors c.in-WriteSelectors.q) (geometry_there c.args.memory.now c.sensible.result c.in_ok-geometry.geometry c.sensible.ensures.known c.sensible.ensures.ready c.in_ok-geometry.ensures.ok_part).0 (geometry_there c.args.memory.now c.sensible.result c.in_ok-geometry.geometry c.sensible.ensures.known c.sensible.ensures.ready c.in_ok-geometry.ensures.ok_part).1.0 c.in-WriteSelectors.ensures)
    c.selectors_next.ensures

pub returns-in-WriteHeader : goal.returns-in-WriteHeader
unfolding next_told
returns-in-WriteHeader c =
    does_as _ _ _ _ (next_taken c.args.memory.now c.in_ok-geometry.geometry.pages WriteHeader (geometry_there c.args.memory.now c.sensible.result c.in_ok-geometry.geometry c.sensible.ensures.known c.sensible.ensures.ready c.in_ok-geometry.ensures.ok_part).0 (geometry_there c.args.memory.now c.sensible.result c.in_ok-geometry.geometry c.sensible.ensures.known c.sensible.ensures.ready c.in_ok-geometry.ensures.ok_part).1.0 c.in-WriteHeader.ensures)
    c.write_header.ensures

pub returns-in-FlushHeader : goal.returns-in-FlushHeader
unfolding next_told
returns-in-FlushHeader c =
    does_as _ _ _ _ (next_taken c.args.memory.now c.in_ok-geometry.geometry.pages FlushHeader (geometry_there c.args.memory.now c.sensible.result c.in_ok-geometry.geometry c.sensible.ensures.known c.sensible.ensures.ready c.in_ok-geometry.ensures.ok_part).0 (geometry_there c.args.memory.now c.sensible.result c.in_ok-geometry.geometry c.sensible.ensures.known c.sensible.ensures.ready c.in_ok-geometry.ensures.ok_part).1.0 c.in-FlushHeader.ensures)
    (c.store.ensures, told_flush c.args.out.now)

pub returns-in-Committed : goal.returns-in-Committed
unfolding next_told
returns-in-Committed c =
    does_as _ _ _ _ (next_taken c.args.memory.now c.in_ok-geometry.geometry.pages Committed (geometry_there c.args.memory.now c.sensible.result c.in_ok-geometry.geometry c.sensible.ensures.known c.sensible.ensures.ready c.in_ok-geometry.ensures.ok_part).0 (geometry_there c.args.memory.now c.sensible.result c.in_ok-geometry.geometry c.sensible.ensures.known c.sensible.ensures.ready c.in_ok-geometry.ensures.ok_part).1.0 c.in-Committed.ensures)
    c.committed.ensures

pub returns-in-Shown : goal.returns-in-Shown
unfolding next_told
returns-in-Shown c =
    does_as _ _ _ _ (next_taken c.args.memory.now c.in_ok-geometry.geometry.pages Shown (geometry_there c.args.memory.now c.sensible.result c.in_ok-geometry.geometry c.sensible.ensures.known c.sensible.ensures.ready c.in_ok-geometry.ensures.ok_part).0 (geometry_there c.args.memory.now c.sensible.result c.in_ok-geometry.geometry c.sensible.ensures.known c.sensible.ensures.ready c.in_ok-geometry.ensures.ok_part).1.0 c.in-Shown.ensures)
    (c.store-in-Shown.ensures, told_done c.args.out.now)

pub returns-in_default : goal.returns-in_default
returns-in_default c =
    let m = c.args.memory.now in
    let P = c.in_ok-geometry.geometry.pages in
    refused_does m c.args.out.now 1 1 refl
    (next_taken m P c.load.result (geometry_there c.args.memory.now c.sensible.result c.in_ok-geometry.geometry c.sensible.ensures.known c.sensible.ensures.ready c.in_ok-geometry.ensures.ok_part).0 (geometry_there c.args.memory.now c.sensible.result c.in_ok-geometry.geometry c.sensible.ensures.known c.sensible.ensures.ready c.in_ok-geometry.ensures.ok_part).1.0 c.load.ensures
    ∙ next_out P c.load.result m c.in_default.not-ShowBoxes c.in_default.not-WriteTable c.in_default.not-WriteSelectors c.in_default.not-WriteHeader c.in_default.not-FlushHeader c.in_default.not-Committed c.in_default.not-Shown)
