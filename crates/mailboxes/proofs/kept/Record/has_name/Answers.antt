-- Equal lengths and equal words.
use Rattle.std.proofs.Common.{◌%◌, length, get_or, ap, ◌∙◌, eq-eqb, ne_eqb}
use Rattle.model.specs.Mail.{same}
use Rattle.pages.specs.Words.{part}
use Rattle.mailboxes.specs.Directory.{named}
use Rattle.mailboxes.proofs.kept.Record.has_name.Goals as goal

pub returns-then-self-name : goal.returns-then-self-name
unfolding named
returns-then-self-name c =
    rw (eq-eqb (get_or c.args.self.now.words.now 0 0 % 256) (length c.args.name.now.bytes.now) c.if-self-name.true)
    (c.is_kept_as.ensures ∙ ap (same (part c.args.self.now.words.now 1 8)) c.args.name.now.kept)

pub returns-else-self-name : goal.returns-else-self-name
unfolding named
returns-else-self-name c = rw (ne_eqb (get_or c.args.self.now.words.now 0 0 % 256) (length c.args.name.now.bytes.now) c.if-self-name.false)
