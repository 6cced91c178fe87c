-- `after_rule` meets its contract.
use Rattle.std.proofs.Common.{◌≡◌, rules, sym, ◌∙◌}
use Rattle.std.specs.Option.{option_map}
use Rattle.commands.specs.Lent.{left_after}
use Rattle.commands.specs.Reader.{listed, read_action, read_rule}
use Rattle.commands.proofs.Laws.{listed_after}
use Rattle.commands.proofs.rules.after_rule.Goals as goal

pub returns-in_err-after_test : goal.returns-in_err-after_test
unfolding read_rule
returns-in_err-after_test c = search rules

pub returns : goal.returns
unfolding read_rule
returns c =
    let h : option_map (λ x. x.now) c.after_list.result ≡ left_after (listed 8 read_action c.in_ok-after_test.field-0.now) =
    c.after_list.ensures (λ x. left_after (read_action x)) (λ p o e. search rules) ∙ sym (listed_after 8 read_action c.in_ok-after_test.field-0.now) in
    search rules
