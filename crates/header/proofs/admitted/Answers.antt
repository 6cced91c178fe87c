-- Each test that fails names its refusal; after all of them there is none.
use Rattle.std.proofs.Common.{sym, ◌∙◌, inl, inr, arith, eqb-true}
use borrow.Author.Tests.{eqb-false}
use Rattle.header.proofs.Entries.{refusal_letter, refusal_name, refusal_row, refusal_none}
use Rattle.header.proofs.admitted.Goals as goal
use Rattle.header.proofs.admitted.Goals.{then-is_empty-via-then-is_empty, then-is_empty-via-else-is_empty+then-name-gt-MAX_NAME}

pub returns-then-letter-gt-MAX_LETTER : goal.returns-then-letter-gt-MAX_LETTER
returns-then-letter-gt-MAX_LETTER c = refusal_letter c.args.letter.now c.args.name.now c.args.row.now c.if-letter-gt-MAX_LETTER.true

pub returns-then-is_empty : goal.returns-then-is_empty
returns-then-is_empty c =
    refusal_name c.args.letter.now c.args.name.now c.args.row.now c.if-letter-gt-MAX_LETTER.false
    (elim c.then-is_empty.branch [
      | then-is_empty-via-then-is_empty w ↦ inl (eqb-true _ _ (sym c.is_empty.ensures ∙ w.if-is_empty.true))
      | then-is_empty-via-else-is_empty+then-name-gt-MAX_NAME w ↦ inr w.if-name-gt-MAX_NAME.true
    ])

pub returns-then-row-letter : goal.returns-then-row-letter
returns-then-row-letter c =
    refusal_row c.args.letter.now c.args.name.now c.args.row.now c.if-letter-gt-MAX_LETTER.false
    (omega (arith, eqb-false _ _ (sym c.if-is_empty.ensures))) c.if-name-gt-MAX_NAME.false c.if-row-letter.true

pub returns : goal.returns
returns c =
    refusal_none c.args.letter.now c.args.name.now c.args.row.now c.if-letter-gt-MAX_LETTER.false
    (omega (arith, eqb-false _ _ (sym c.if-is_empty.ensures))) c.if-name-gt-MAX_NAME.false c.if-row-letter.false
