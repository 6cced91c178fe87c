use Rattle.std.proofs.Common.{refl}
use Rattle.model.specs.House.{join, hand_in, boxes, new_box, drop_box, list, get, set_mark, to_box, clear, rules, find, push, core}
use Rattle.model.specs.Known.{nothing, also, CoreFromNothing}

pub core_from_nothing : CoreFromNothing
unfolding CoreFromNothing also nothing core
core_from_nothing (join n) = refl
core_from_nothing (hand_in d a bs) = refl
core_from_nothing (boxes a) = refl
core_from_nothing (new_box a n) = refl
core_from_nothing (drop_box a n) = refl
core_from_nothing (list a n i k) = refl
core_from_nothing (get a n i j k) = refl
core_from_nothing (set_mark a n i m v) = refl
core_from_nothing (to_box a n i o) = refl
core_from_nothing (clear a n) = refl
core_from_nothing (rules a rs) = refl
core_from_nothing (find a n t) = refl
core_from_nothing (push d) = refl
