use Rattle.std.proofs.Common.{sym, ◌∙◌}
use Rattle.header.proofs.Lines.{field_value}
use Rattle.header.proofs.head.ValuesIterator.next.Goals as goal

pub returns-in-Some-value_in-clause-steps : goal.returns-in-Some-value_in-clause-steps
returns-in-Some-value_in-clause-steps c =
    sym c.loop-line.invariant
    ∙ field_value c.loop-line.self.name.now c.loop-line.self.lines.left.now c.in-Some.line.now c.next.new.self.left.now c.in-Some-value_in.value.now
    c.in-Some.ensures.steps c.in-Some-value_in.ensures
