-- Nothing is in every text; a part that is something is one of the text's windows.
use Rattle.std.proofs.Common.{◌<◌, sym, ◌∙◌, arith, rules, tests, length, true-eqb, false-eqb}
use Rattle.std.proofs.lemmas.Iterator.Search.{any_from_yields_List}
use Rattle.model.specs.Mail.{small, smalls, same}
use Rattle.header.proofs.Small.{length_each}
use Rattle.header.proofs.Parts.{YieldsList-from_windows, holds_windows, holds_nothing}
use Rattle.header.proofs.text.contains.Goals as goal

pub returns-then-is_empty : goal.returns-then-is_empty
returns-then-is_empty c =
    c.if-is_empty.true
    ∙ sym (holds_nothing (smalls c.args.part.now) (smalls c.args.text.now) (length_each small c.args.part.now ∙ true-eqb _ _ c.if-is_empty.ensures))

pub returns-else-is_empty : goal.returns-else-is_empty
returns-else-is_empty c =
    let some : 0 < length c.args.part.now = omega (arith, false-eqb _ _ c.if-is_empty.ensures) in
    any_from_yields_List (λ w. same (smalls c.args.part.now) (smalls w)) _ _ _ c.any.ensures.ran
    (YieldsList-from_windows (length c.args.part.now) c.args.text.now some (cc) (cc)) (λ x b q k. search (rules, tests))
    ∙ holds_windows c.args.part.now c.args.text.now some
