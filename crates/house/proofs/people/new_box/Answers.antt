-- The refusals in their order, and then the commit of what was added.
use Rattle.std.proofs.Common.{◌≡◌, ◌*◌, ◌<◌, ◌≤◌, is_some, sym, refl, ap, ◌∙◌, subst, arith}
use Rattle.pages.specs.Geometry.{directory_pages}
use Rattle.pages.proofs.Geometry.{directory_pages_most}
use Rattle.house.specs.Memory.{area_of}
use Rattle.house.specs.Machine.{commit}
use Rattle.house.specs.Does.{Does}
use Rattle.house.proofs.Acts.{does_as, refused_does}
use Rattle.house.proofs.Registers.{room_says}
use Rattle.house.proofs.Joins.{box_found, boxes_counted, box_nobody, box_taken, box_many, box_full, box_done, box_area}
use Rattle.house.proofs.people.new_box.Goals as goal

pub returns-then-person-memory : goal.returns-then-person-memory
returns-then-person-memory c =
    refused_does c.args.memory.now c.args.out.now 3 3 refl (box_nobody c.args.geometry.now.pages c.args.person c.args.name.bytes.now c.args.memory.now c.if-person-memory.true)

pub returns-then-is_some : goal.returns-then-is_some
returns-then-is_some c =
    let a = c.args.person in
    let nm = c.args.name.bytes.now in
    refused_does c.args.memory.now c.args.out.now 4 4 refl
    (box_taken c.args.geometry.now.pages a nm c.args.memory.now c.if-person-memory.false
    (ap is_some (sym (box_found _ _ _ _ _ c.directory-kept.ensures a nm c.find_box.result c.find_box.ensures)) ∙ sym c.if-is_some.ensures))

pub returns-then-count_boxes-ge-MOST_BOXES_EACH : goal.returns-then-count_boxes-ge-MOST_BOXES_EACH
returns-then-count_boxes-ge-MOST_BOXES_EACH c =
    let a = c.args.person in
    let nm = c.args.name.bytes.now in
    refused_does c.args.memory.now c.args.out.now 7 7 refl
    (box_many c.args.geometry.now.pages a nm c.args.memory.now c.if-person-memory.false
    (ap is_some (sym (box_found _ _ _ _ _ c.directory-kept.ensures a nm c.find_box.result c.find_box.ensures)) ∙ sym c.if-is_some.ensures)
    (subst (λ n. 256 ≤ n) (boxes_counted _ _ _ _ _ c.directory-kept.ensures a c.count_boxes.result c.count_boxes.ensures) c.if-count_boxes-ge-MOST_BOXES_EACH.true))

pub returns-then-not-room : goal.returns-then-not-room
returns-then-not-room c =
    let a = c.args.person in
    let nm = c.args.name.bytes.now in
    refused_does c.args.memory.now c.args.out.now 8 8 refl
    (box_full c.args.geometry.now.pages a nm c.args.memory.now c.if-person-memory.false
    (ap is_some (sym (box_found _ _ _ _ _ c.directory-kept.ensures a nm c.find_box.result c.find_box.ensures)) ∙ sym c.if-is_some.ensures)
    (subst (λ n. n < 256) (boxes_counted _ _ _ _ _ c.directory-kept.ensures a c.count_boxes.result c.count_boxes.ensures) c.if-count_boxes-ge-MOST_BOXES_EACH.false)
    (sym c.if-not-room.ensures))

pub commit-requires : goal.commit-requires
commit-requires c =
    let P = c.args.geometry.now.pages in
    let m = c.args.memory.now in
    let most : 64 * directory_pages P ≤ 197504 = omega (arith, directory_pages_most P) in
    let area : area_of c.add_box.new.memory ≡ area_of m = ap area_of c.add_box.ensures
    ∙ box_area P c.args.name.bytes.now m (64 * directory_pages P) c.args.geometry.now.most (omega arith) refl most (room_says P 256 m (sym c.if-not-room.ensures)).1 c.args.person in
    subst (λ a. a < 2) (sym area) c.requires.area_known

pub returns : goal.returns
returns c =
    let P = c.args.geometry.now.pages in
    let a = c.args.person in
    let nm = c.args.name.bytes.now in
    does_as _ _ _ _
    (box_done P a nm c.args.memory.now c.if-person-memory.false
    (ap is_some (sym (box_found _ _ _ _ _ c.directory-kept.ensures a nm c.find_box.result c.find_box.ensures)) ∙ sym c.if-is_some.ensures)
    (subst (λ n. n < 256) (boxes_counted _ _ _ _ _ c.directory-kept.ensures a c.count_boxes.result c.count_boxes.ensures) c.if-count_boxes-ge-MOST_BOXES_EACH.false)
    (sym c.if-not-room.ensures))
    (subst (λ l. Does (commit P 0 l) c.commit.result c.args.out.now c.commit.new.memory c.commit.new.out) c.add_box.ensures c.commit.ensures)
