-- The page comes into the directory; then there is a next one, or the house is up.
use Rattle.std.proofs.Common.{refl, ◌+◌, ◌<◌, ◌≤◌, ap, ◌∙◌, subst, arith}
use Rattle.pages.specs.Geometry.{directory_pages}
use Rattle.pages.proofs.Geometry.{directory_pages_most}
use Rattle.house.specs.declared.phase.Phase.TheVariants.{Idle}
use Rattle.house.specs.Memory.{in_phase}
use Rattle.house.specs.Does.{Quietly, directory_asked}
use Rattle.house.proofs.Acts.{quietly_as, refused_quietly, told_done}
use Rattle.house.proofs.Powers.{directory_wrong, directory_more, directory_last}
use Rattle.house.proofs.power.directory_read.Goals as goal

pub returns-then-t-pages : goal.returns-then-t-pages
returns-then-t-pages c =
    refused_quietly c.args.memory.now 1 1 refl
    (directory_wrong c.args.geometry.now.pages c.args.t c.args.page.now c.args.memory.now (subst (λ n. n ≤ c.args.t) c.directory_pages-pages.ensures c.if-t-pages.true))

pub returns-then-t-pages-2 : goal.returns-then-t-pages-2
returns-then-t-pages-2 c =
    let P = c.args.geometry.now.pages in
    let t = c.args.t in
    let here : t < directory_pages P = subst (λ n. t < n) c.directory_pages-pages.ensures c.if-t-pages.false in
    let more : t + 1 < directory_pages P = subst (λ n. t + 1 < n) c.directory_pages-pages.ensures c.if-t-pages-2.true in
    let few : t < 3086 = omega (arith, directory_pages_most P) in
    quietly_as _ _ (directory_more P t c.args.page.now c.args.memory.now c.args.geometry.now.most (omega arith) few here more)
    (subst (λ l. Quietly (directory_asked P (t + 1) l) c.read_directory.result c.read_directory.new.memory) c.load_page.ensures c.read_directory.ensures)

pub returns : goal.returns
returns c =
    let P = c.args.geometry.now.pages in
    let t = c.args.t in
    let here : t < directory_pages P = subst (λ n. t < n) c.directory_pages-pages.ensures c.if-t-pages.false in
    let last : directory_pages P ≤ t + 1 = subst (λ n. n ≤ t + 1) c.directory_pages-pages.ensures c.if-t-pages-2.false in
    quietly_as _ _ (directory_last P t c.args.page.now c.args.memory.now here last) (c.store.ensures ∙ ap (in_phase Idle) c.load_page.ensures, told_done)
