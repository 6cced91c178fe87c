-- Each turn writes one letter more.
use Rattle.std.proofs.Common.{◌≡◌, ◌++◌, length, get_or, take, drop, take_all, length-take-le, sym, ap, ◌∙◌, arith}
use Rattle.std.proofs.lemmas.List.{take_more, take_more_set}
use Rattle.model.specs.Mail.{small, smalls}
use Rattle.header.proofs.Small.{length_each, lower_small, small_at}
use Rattle.header.proofs.text.copy_lowercase.Goals as goal

pub loop-i-preserved : goal.loop-i-preserved
loop-i-preserved c =
    let text = c.args.text.now in
    let long : length (take (length text) c.args.out.now) ≡ length text = length-take-le (length text) c.args.out.now (omega (arith, c.requires)) in
    let more = take_more_set c.loop-i.letter-items c.loop-i.i c.to_ascii_lowercase.result (omega (arith, long)) in
    let next = take_more (smalls text) c.loop-i.i 0 (omega (arith, long, length_each small text)) in
    let letter = small_at text c.loop-i.i (omega (arith, long)) in
    let lower = lower_small (get_or text c.loop-i.i 0) in
    cc

pub returns : goal.returns
returns c =
    let text = c.args.text.now in
    let long : length (take (length text) c.args.out.now) ≡ length text = length-take-le (length text) c.args.out.now (omega (arith, c.requires)) in
    let end : c.loop-i.i ≡ length text = omega (arith, long) in
    let all : c.loop-i.letter-items ≡ smalls text =
    sym (take_all c.loop-i.i c.loop-i.letter-items (omega (arith, long, end))) ∙ c.loop-i.invariant ∙ take_all c.loop-i.i (smalls text) (omega (arith, end, length_each small text)) in
    ap (λ l. l ++ drop (length text) c.args.out.now) all
