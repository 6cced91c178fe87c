-- `after_rules` meets its contract.
use Rattle.std.proofs.Common.{rules, sym, ◌∙◌}
use Rattle.commands.specs.Lent.{left_after}
use Rattle.commands.specs.Reader.{read_rules, read_rule}
use Rattle.commands.proofs.Laws.{listed_after}
use Rattle.commands.proofs.rules.after_rules.Goals as goal

pub returns : goal.returns
unfolding read_rules
returns c = c.after_list.ensures (λ x. left_after (read_rule x)) (λ p o e. search rules) ∙ sym (listed_after 32 read_rule c.args.bytes.now)
