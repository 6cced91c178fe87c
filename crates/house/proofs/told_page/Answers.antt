-- The phase says which page it is; otherwise it is out of turn.
use Rattle.std.proofs.Common.{refl, ◌∙◌, arith}
use Rattle.house.specs.declared.refusal.Refusal.TheVariants.{NoCommand}
use Rattle.house.specs.declared.phase.Phase.TheVariants.{ReadHeader, ReadSelectors, ReadDirectory}
use Rattle.house.specs.Machine.{page_told}
use Rattle.house.proofs.Acts.{quietly_as, refused_quietly, handed_on}
use Rattle.house.proofs.Turns.{geometry_there, no_geometry, whole_page, not_whole, page_refused, no_page_refused, lent_page_taken, page_out, no_page_is}
use Rattle.house.proofs.told_page.Goals as goal

pub returns-in_err-geometry : goal.returns-in_err-geometry
returns-in_err-geometry c =
    let none = handed_on c.sensible.result NoCommand c.in_err-geometry.field-0.0 c.from_residual.result c.in_err-geometry.ensures.value c.from_residual.ensures.1 in
    rw none.1 (refused_quietly c.args.memory.now 1 1 refl (page_refused c.args.memory.now c.args.page.now (no_geometry c.args.memory.now c.sensible.result c.sensible.ensures.known none.0)))

pub returns-in_err-page : goal.returns-in_err-page
returns-in_err-page c =
    let none = handed_on c.as_array.result NoCommand c.in_err-page.field-0.0 c.from_residual-in_err-page.result c.in_err-page.ensures.value c.from_residual-in_err-page.ensures.1 in
    rw none.1 (refused_quietly c.args.memory.now 1 1 refl (no_page_refused c.args.memory.now c.args.page.now
    (geometry_there c.args.memory.now c.sensible.result c.in_ok-geometry.geometry c.sensible.ensures.known c.sensible.ensures.ready c.in_ok-geometry.ensures.ok_part).0 (no_page_is c.args.page.now (not_whole c.args.page.now c.as_array.result c.as_array.ensures.cases none.0))))

pub returns-in-ReadHeader : goal.returns-in-ReadHeader
unfolding page_told
returns-in-ReadHeader c =
    quietly_as _ _ (lent_page_taken c.args.memory.now c.in_ok-geometry.geometry.pages ReadHeader c.args.page.now c.in_ok-page.page.now (whole_page c.args.page.now c.as_array.result c.in_ok-page.page c.as_array.ensures.cases c.in_ok-page.ensures.ok_part) (λ i. omega (arith, c.type_inv.page i))
    (geometry_there c.args.memory.now c.sensible.result c.in_ok-geometry.geometry c.sensible.ensures.known c.sensible.ensures.ready c.in_ok-geometry.ensures.ok_part).0 (geometry_there c.args.memory.now c.sensible.result c.in_ok-geometry.geometry c.sensible.ensures.known c.sensible.ensures.ready c.in_ok-geometry.ensures.ok_part).1.0 c.in-ReadHeader.ensures) c.header_read.ensures

pub returns-in-ReadSelectors : goal.returns-in-ReadSelectors
unfolding page_told
returns-in-ReadSelectors c =
    quietly_as _ _ (lent_page_taken c.args.memory.now c.in_ok-geometry.geometry.pages (ReadSelectors c.in-ReadSelectors.q) c.args.page.now c.in_ok-page.page.now (whole_page c.args.page.now c.as_array.result c.in_ok-page.page c.as_array.ensures.cases c.in_ok-page.ensures.ok_part) (λ i. omega (arith, c.type_inv.page i))
    (geometry_there c.args.memory.now c.sensible.result c.in_ok-geometry.geometry c.sensible.ensures.known c.sensible.ensures.ready c.in_ok-geometry.ensures.ok_part).0 (geometry_there c.args.memory.now c.sensible.result c.in_ok-geometry.geometry c.sensible.ensures.known c.sensible.ensures.ready c.in_ok-geometry.ensures.ok_part).1.0 c.in-ReadSelectors.ensures) c.selectors_read.ensures

pub returns-in-ReadDirectory : goal.returns-in-ReadDirectory
unfolding page_told
returns-in-ReadDirectory c =
    quietly_as _ _ (lent_page_taken c.args.memory.now c.in_ok-geometry.geometry.pages (ReadDirectory c.in-ReadDirectory.t) c.args.page.now c.in_ok-page.page.now (whole_page c.args.page.now c.as_array.result c.in_ok-page.page c.as_array.ensures.cases c.in_ok-page.ensures.ok_part) (λ i. omega (arith, c.type_inv.page i))
    (geometry_there c.args.memory.now c.sensible.result c.in_ok-geometry.geometry c.sensible.ensures.known c.sensible.ensures.ready c.in_ok-geometry.ensures.ok_part).0 (geometry_there c.args.memory.now c.sensible.result c.in_ok-geometry.geometry c.sensible.ensures.known c.sensible.ensures.ready c.in_ok-geometry.ensures.ok_part).1.0 c.in-ReadDirectory.ensures) c.directory_read.ensures

pub returns-in_default : goal.returns-in_default
returns-in_default c =
    let m = c.args.memory.now in
    let P = c.in_ok-geometry.geometry.pages in
    refused_quietly m 1 1 refl
    (lent_page_taken m P c.load.result c.args.page.now c.in_ok-page.page.now (whole_page c.args.page.now c.as_array.result c.in_ok-page.page c.as_array.ensures.cases c.in_ok-page.ensures.ok_part) (λ i. omega (arith, c.type_inv.page i)) (geometry_there c.args.memory.now c.sensible.result c.in_ok-geometry.geometry c.sensible.ensures.known c.sensible.ensures.ready c.in_ok-geometry.ensures.ok_part).0 (geometry_there c.args.memory.now c.sensible.result c.in_ok-geometry.geometry c.sensible.ensures.known c.sensible.ensures.ready c.in_ok-geometry.ensures.ok_part).1.0 c.load.ensures
    ∙ page_out P c.load.result c.in_ok-page.page.now m c.in_default.not-ReadHeader c.in_default.not-ReadSelectors c.in_default.not-ReadDirectory)
