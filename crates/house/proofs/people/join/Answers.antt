-- The refusals in their order, and then the commit of what was added.
use Rattle.std.proofs.Common.{◌≡◌, ◌*◌, ◌<◌, ◌≤◌, is_some, sym, refl, ap, ◌∙◌, subst, arith}
use Rattle.pages.specs.Geometry.{directory_pages}
use Rattle.pages.proofs.Geometry.{directory_pages_most}
use Rattle.house.specs.Memory.{area_of}
use Rattle.house.specs.Machine.{commit}
use Rattle.house.specs.Does.{Does}
use Rattle.house.proofs.Acts.{does_as, refused_does}
use Rattle.house.proofs.Registers.{room_says}
use Rattle.house.proofs.Joins.{person_found, join_taken, join_many, join_full, join_done, person_area}
use Rattle.house.proofs.people.join.Goals as goal

pub returns-then-is_some : goal.returns-then-is_some
returns-then-is_some c =
    let P = c.args.geometry.now.pages in
    let m = c.args.memory.now in
    let nm = c.args.name.bytes.now in
    refused_does m c.args.out.now 4 4 refl
    (join_taken P nm m (ap is_some (sym (person_found _ _ _ _ _ c.directory.ensures nm c.find_person.result c.find_person.ensures)) ∙ sym c.if-is_some.ensures))

pub returns-then-memory-ge-MOST_PEOPLE : goal.returns-then-memory-ge-MOST_PEOPLE
returns-then-memory-ge-MOST_PEOPLE c =
    let P = c.args.geometry.now.pages in
    let m = c.args.memory.now in
    let nm = c.args.name.bytes.now in
    refused_does m c.args.out.now 7 7 refl
    (join_many P nm m (ap is_some (sym (person_found _ _ _ _ _ c.directory.ensures nm c.find_person.result c.find_person.ensures)) ∙ sym c.if-is_some.ensures) c.if-memory-ge-MOST_PEOPLE.true)

pub returns-then-not-room : goal.returns-then-not-room
returns-then-not-room c =
    let P = c.args.geometry.now.pages in
    let m = c.args.memory.now in
    let nm = c.args.name.bytes.now in
    refused_does m c.args.out.now 8 8 refl
    (join_full P nm m (ap is_some (sym (person_found _ _ _ _ _ c.directory.ensures nm c.find_person.result c.find_person.ensures)) ∙ sym c.if-is_some.ensures) c.if-memory-ge-MOST_PEOPLE.false (sym c.if-not-room.ensures))

pub commit-requires : goal.commit-requires
commit-requires c =
    let P = c.args.geometry.now.pages in
    let m = c.args.memory.now in
    let most : 64 * directory_pages P ≤ 197504 = omega (arith, directory_pages_most P) in
    let area : area_of c.add_person.new.memory ≡ area_of m = ap area_of c.add_person.ensures
    ∙ person_area P c.args.name.bytes.now m (64 * directory_pages P) c.args.geometry.now.most (omega arith) refl most (room_says P 776 m (sym c.if-not-room.ensures)).1 c.if-memory-ge-MOST_PEOPLE.false in
    subst (λ a. a < 2) (sym area) c.requires.area_known

pub returns : goal.returns
returns c =
    let P = c.args.geometry.now.pages in
    let m = c.args.memory.now in
    let nm = c.args.name.bytes.now in
    does_as _ _ _ _
    (join_done P nm m (ap is_some (sym (person_found _ _ _ _ _ c.directory.ensures nm c.find_person.result c.find_person.ensures)) ∙ sym c.if-is_some.ensures) c.if-memory-ge-MOST_PEOPLE.false (sym c.if-not-room.ensures))
    (subst (λ l. Does (commit P 0 l) c.commit.result c.args.out.now c.commit.new.memory c.commit.new.out) c.add_person.ensures c.commit.ensures)
