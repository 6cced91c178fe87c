-- Equal words are equal from the first one on.
use Rattle.std.proofs.Common.{get_or, ap₂, ◌∙◌, sym, arith, ne_eqb}
use Rattle.model.specs.Mail.{same}
use Rattle.pages.specs.Words.{part}
use Rattle.pages.proofs.Words.{get_d_part}
use Rattle.mailboxes.proofs.Names.{same_pointwise, first_differs}
use Rattle.mailboxes.proofs.kept.Record.is_kept_as.Goals as goal

pub returns-then-self-words : goal.returns-then-self-words
returns-then-self-words c = c.eq.ensures ∙ same_pointwise c.name_words.result.now c.as_slice.result.now ∙ ap₂ same c.name_words.ensures c.as_slice.ensures

pub returns-else-self-words : goal.returns-else-self-words
returns-else-self-words c =
    let first = get_d_part c.args.self.now.words.now 1 8 0 0 (omega arith) in
    ne_eqb (get_or c.args.self.now.words.now 1 0) (get_or c.args.words.now 0 0) c.if-self-words.false
    ∙ sym (first_differs (part c.args.self.now.words.now 1 8) c.args.words.now (λ e. c.if-self-words.false (sym first ∙ e)))
