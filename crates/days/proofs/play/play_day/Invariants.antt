use Rattle.std.proofs.Common.{◌≡◌, take, vec_items}
use Rattle.days.specs.Played.{all_said}
use Rattle.days.proofs.play.play_day.Given as goal

abbrev pub invariant-loop-place : goal.invariant-loop-place
invariant-loop-place l = l.play.ends.commands ≡ all_said (take l.place-counter (vec_items l.day.items))
