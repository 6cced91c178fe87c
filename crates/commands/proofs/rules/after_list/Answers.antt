-- `after_list` meets its contract.
use Rattle.std.proofs.Common.{rules, ap, ◌∙◌}
use Rattle.commands.specs.Lent.{after_counted}
use Rattle.commands.proofs.Laws.{folded_after}
use Rattle.commands.proofs.rules.after_list.Goals as goal

pub returns : goal.returns
returns g c = λ one is.
    folded_after _ one _ (λ a x v f' k. (search rules, search rules)) _ _ c.in_ok-count.rest c.try_fold.result c.try_fold.ensures.ran ∙ ap (after_counted one) c.in_ok-count.ensures
