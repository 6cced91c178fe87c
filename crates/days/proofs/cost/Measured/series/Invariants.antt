use Rattle.std.proofs.Common.{◌≡◌, ◌≤◌}
use Rattle.days.proofs.cost.Measured.series.Given as goal

abbrev pub invariant-loop-number : goal.invariant-loop-number
invariant-loop-number l = (l.cost.commands ≡ l.number) × (l.count ≤ 480)
