-- Each turn reads one word more.
use Rattle.std.proofs.Common.{◌/◌, [], length, refl, arith}
use Rattle.std.proofs.lemmas.List.{take_more_set}
use Rattle.pages.specs.Words.{words_in}
use Rattle.pages.proofs.Words.{words_in_push, chunk_at, word_of_chunk}
use Rattle.pages.proofs.bytes.load.Goals as goal

pub loop-i-init : goal.loop-i-init
unfolding words_in
loop-i-init c = refl

pub loop-i-preserved : goal.loop-i-preserved
loop-i-preserved c =
    let more = take_more_set c.loop-i.words c.loop-i.i c.from_be_bytes.result (omega arith) in
    let chunk = chunk_at (length c.args.page.now / 8) c.loop-i.i c.args.page.now [] (omega (arith, c.as_chunks.ensures.front_len)) in
    let word = word_of_chunk (length c.args.page.now / 8) c.loop-i.i c.args.page.now [] (omega (arith, c.as_chunks.ensures.front_len)) (omega arith) in
    let push = words_in_push c.loop-i.i c.args.page.now in
    cc
