-- The lines passed were of no field.
use Rattle.std.proofs.Common.{◌≡◌, length}
use Rattle.header.specs.Head.{lines_left, values_left}
use Rattle.header.proofs.head.ValuesIterator.next.Given as goal

abbrev pub invariant-loop-line : goal.invariant-loop-line
invariant-loop-line l = values_left l.self ≡ values_left l.fn.self

abbrev pub decreases-loop-line : goal.decreases-loop-line
decreases-loop-line l = length (lines_left l.self.lines)
