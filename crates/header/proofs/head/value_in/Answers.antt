-- A line is one of the field if its front is the name and a colon follows; each way out lacks one of these.
use Rattle.std.proofs.Common.{◌≡◌, ◌+◌, length, drop, sym, ap, ◌∙◌, arith}
use Rattle.std.proofs.lemmas.Bool.{and_right}
use Rattle.std.proofs.lemmas.List.{drop-drop}
use Rattle.model.specs.Mail.{no_blanks, same, smalls}
use Rattle.header.proofs.Small.{length_no_blanks}
use Rattle.header.proofs.Lines.{of_field_split, of_field_short}
use Rattle.header.proofs.head.value_in.Goals as goal

pub returns-in_err-front : goal.returns-in_err-front
returns-in_err-front c = rw c.from_residual.ensures (of_field_short c.args.name.now c.args.line.now (omega (arith, c.in_err-front.ensures.cases)))

pub returns-then-not-equals : goal.returns-then-not-equals
returns-then-not-equals c =
    of_field_split c.args.name.now c.args.line.now c.in_ok-front.front.now c.in_ok-front.rest.now c.in_ok-front.ensures.cases
    ∙ rw (sym c.if-not-equals.ensures)

pub returns-in_err-strip_prefix : goal.returns-in_err-strip_prefix
returns-in_err-strip_prefix c =
    rw c.from_residual-in_err-strip_prefix.ensures
    (of_field_split c.args.name.now c.args.line.now c.in_ok-front.front.now c.in_ok-front.rest.now c.in_ok-front.ensures.cases
    ∙ and_right (same (smalls c.args.name.now) (smalls c.in_ok-front.front.now)) _ c.in_err-strip_prefix.ensures.cases)

pub returns : goal.returns
returns c =
    let split = c.in_ok-front.ensures.cases in
    let stripped = c.in_ok-strip_prefix.ensures.cases in
    let after : length c.args.name.now + 1 ≡ 1 + length c.args.name.now = omega arith in
    record {
      named =
          of_field_split c.args.name.now c.args.line.now c.in_ok-front.front.now c.in_ok-front.rest.now split
          ∙ rw (sym c.if-not-equals.ensures, stripped.0);
      value_is =
          c.without_blanks.ensures
          ∙ ap no_blanks (stripped.1 ∙ ap (drop 1) split.2 ∙ drop-drop 1 (length c.args.name.now) c.args.line.now ∙ ap (λ n. drop n c.args.line.now) after);
      shorter = omega (arith, ap length c.without_blanks.ensures, length_no_blanks c.in_ok-strip_prefix.field-0.now, stripped.2, split.4);
    }
