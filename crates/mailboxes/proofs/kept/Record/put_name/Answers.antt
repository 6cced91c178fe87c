-- Each turn writes one byte more.
use Rattle.std.proofs.Common.{◌≡◌, length, take, take_all, sym, ap, ◌∙◌, arith}
use Rattle.std.proofs.lemmas.List.{take_more, take_more_set}
use Rattle.pages.specs.Words.{bytes_of, part}
use Rattle.mailboxes.proofs.Rows.{bytes_long}
use Rattle.mailboxes.proofs.kept.Record.put_name.Goals as goal

pub loop-k-preserved : goal.loop-k-preserved
loop-k-preserved c =
    let rec = c.args.self.now in
    let more = take_more_set c.loop-k.out c.loop-k.k c.name_byte.result (omega arith) in
    let next = take_more (bytes_of (part rec.words.now 1 8)) c.loop-k.k 0 (omega (arith, bytes_long rec.words.now rec.whole)) in
    cc

pub returns : goal.returns
returns c =
    let kept = bytes_of (part c.args.self.now.words.now 1 8) in
    let end : c.loop-k.k ≡ length c.args.out.now = omega arith in
    sym (take_all c.loop-k.k c.loop-k.out (omega arith)) ∙ c.loop-k.invariant ∙ ap (λ k. take k kept) end
