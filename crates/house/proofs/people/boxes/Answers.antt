-- Only of somebody who is there.
use Rattle.std.proofs.Common.{refl, ap}
use Rattle.std.proofs.lemmas.Bool.{le-ltb}
use Rattle.model.specs.Mail.{pick}
use Rattle.house.specs.Memory.{people_of}
use Rattle.house.specs.Machine.{refuse, shows_boxes}
use Rattle.house.proofs.Acts.{refused_does}
use Rattle.house.proofs.people.boxes.Goals as goal

pub returns-then-person-memory : goal.returns-then-person-memory
returns-then-person-memory c =
    let m = c.args.memory.now in
    refused_does m c.args.out.now 3 3 refl
    (ap (λ t. pick t (shows_boxes c.args.geometry.now.pages c.args.person 0 m) (refuse 3 m)) (le-ltb c.args.person (people_of m) c.if-person-memory.true))
