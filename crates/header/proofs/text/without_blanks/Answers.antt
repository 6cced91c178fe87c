-- The first byte that is no blank begins the text; if there is none, nothing is left.
use Rattle.std.proofs.Common.{not, eqb, length, drop, sym, ap, ◌∙◌, rules, tests}
use Rattle.std.specs.Option.{unwrap_or}
use Rattle.std.proofs.lemmas.List.{take_rest}
use Rattle.std.proofs.lemmas.List.Sums.{prefix_len-le-length}
use Rattle.std.proofs.lemmas.Iterator.{YieldsList-from_slice}
use Rattle.std.proofs.lemmas.Iterator.Search.{position_from_yields_List}
use Rattle.header.proofs.Small.{no_blanks_from, place_or_end}
use Rattle.header.proofs.text.without_blanks.Goals as goal

pub returns : goal.returns
returns c =
    let found = position_from_yields_List (λ b. not (eqb b 32)) _ _ c.position-start.result c.position-start.ensures.ran (YieldsList-from_slice c.args.text.now cc) (λ x b q k. search (rules, tests)) in
    let start = c.unwrap_or.ensures ∙ ap (λ o. unwrap_or o (length c.args.text.now)) found ∙ place_or_end _ _ (prefix_len-le-length _ c.args.text.now) in
    take_rest c.args.text.now c.unwrap_or.result ∙ ap (λ n. drop n c.args.text.now) start ∙ sym (no_blanks_from c.args.text.now)
