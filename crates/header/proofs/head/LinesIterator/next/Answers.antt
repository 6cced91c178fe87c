-- An empty line ends the head; another is the first of those that are left.
use Rattle.std.proofs.Common.{◌<◌, length, sym, ap, ◌∙◌, arith, true-eqb, false-eqb}
use Rattle.std.proofs.lemmas.List.{nil_from_length}
use Rattle.header.proofs.Lines.{lines_end, lines_more}
use Rattle.header.proofs.head.LinesIterator.next.Goals as goal

pub returns-then-is_empty-clause-steps : goal.returns-then-is_empty-clause-steps
returns-then-is_empty-clause-steps c =
    let empty = sym c.first_line.ensures.line ∙ nil_from_length c.first_line.result.0.now (true-eqb _ _ c.if-is_empty.ensures) in
    (lines_end c.args.self.now.left.now empty, lines_end c.args.self.now.left.now empty)

pub returns-clause-steps : goal.returns-clause-steps
returns-clause-steps c =
    let some : 0 < length c.first_line.result.0.now = omega (arith, false-eqb _ _ c.if-is_empty.ensures) in
    lines_more c.args.self.now.left.now (rw c.first_line.ensures.line at some) ∙ rw (c.first_line.ensures.line, c.first_line.ensures.rest)

pub returns-clause-goes : goal.returns-clause-goes
returns-clause-goes c = record { on = λ _. (tt, tt, omega (arith, ap length (returns-clause-steps c))); keeps = tt; rests = λ _. tt }
