use Rattle.std.proofs.Common.{◌≡◌, vec_items}
use Rattle.days.specs.Played.{all_said}
use Rattle.days.proofs.make.Maker.power.Given as goal

abbrev pub invariant-loop : goal.invariant-loop
invariant-loop l = all_said (vec_items l.items) ≡ all_said (vec_items l.initial.items)
