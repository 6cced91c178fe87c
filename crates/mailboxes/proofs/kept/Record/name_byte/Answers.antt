-- The byte lies in one of the eight words of the name.
use Rattle.std.proofs.Common.{◌+◌, ◌/◌, ◌%◌, get_or, sym, ap, ◌∙◌}
use Rattle.pages.proofs.Words.{eight_is}
use Rattle.mailboxes.proofs.Rows.{name_byte}
use Rattle.mailboxes.proofs.kept.Record.name_byte.Goals as goal

pub returns : goal.returns
returns c =
    let rec = c.args.self.now in
    ap (λ bs. get_or bs (c.args.k % 8) 0) (c.to_be_bytes.ensures ∙ sym (eight_is (get_or rec.words.now (1 + c.args.k / 8) 0)))
    ∙ sym (name_byte rec.words.now rec.whole c.args.k c.requires)
