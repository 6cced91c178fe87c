use Rattle.std.proofs.Common.{◌≡◌, vec_items}
use Rattle.days.specs.Played.{all_said}
use Rattle.days.proofs.make.make_day.Given as goal

abbrev pub invariant-loop : goal.invariant-loop
invariant-loop l = all_said (vec_items l.items) ≡ l.counter
