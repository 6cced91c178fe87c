use Rattle.std.proofs.Common.{◌∙◌, rules, tests}
use Rattle.std.proofs.lemmas.Iterator.Consumers.{YieldsList-from_first}
use Rattle.std.proofs.lemmas.Iterator.Search.{any_from_yields_List}
use Rattle.model.specs.Mail.{smalls, same, field}
use Rattle.header.specs.Head.{values_left}
use Rattle.header.proofs.Parts.{any_listed}
use Rattle.header.proofs.field_equals.Goals as goal

pub returns : goal.returns
returns c =
    let values = field c.args.name.now c.args.letter.now in
    any_from_yields_List (same (smalls c.args.text.now)) c.any.new.self _ _ c.any.ensures.ran (YieldsList-from_first (λ v. smalls v.now) values_left values c.new.ensures.value)
    (λ x b q k. search (rules, tests))
    ∙ any_listed (same (smalls c.args.text.now)) values
