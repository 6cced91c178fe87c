use Rattle.std.proofs.Common.{sym, ap, ◌∙◌}
use Rattle.std.proofs.lemmas.List.{length_push}
use Rattle.std.proofs.lemmas.Slice.Zip.{zip_turn, zip_end}
use Rattle.model.specs.Mail.{each}
use Rattle.days.specs.Held.{write_of}
use Rattle.days.proofs.Pages.{left_more, left_end, device_same}
use Rattle.days.proofs.device.Device.stop.Goals as goal

pub loop-write-preserved : goal.loop-write-preserved
loop-write-preserved c =
    let turn = zip_turn c.args.self.now.waiting.items c.args.choices.now c.loop-write.yielded c.into_iter-write-iterator.result c.loop-write.write-iterator c.next.new.self _ (cc) (cc) c.loop-write.yielded_by _ c.in-Some.is c.next.ensures.steps in
    c.loop-write.invariant ∙ left_more _ _ _ _ _ _ c.in-Some.write.now c.in-Some.leaves.now turn.0 turn.1 (turn.2 _) (turn.3 _) (length_push c.loop-write.yielded _) c.place.ensures

pub returns : goal.returns
returns c =
    let end = zip_end c.args.self.now.waiting.items c.args.choices.now c.loop-write.yielded c.into_iter-write-iterator.result c.loop-write.write-iterator c.next.new.self _ (cc) (cc) c.loop-write.yielded_by c.in-None.is c.next.ensures.steps in
    device_same (sym (c.loop-write.invariant ∙ left_end _ _ _ _ end)) (ap (each write_of) c.clear.ensures.items)
