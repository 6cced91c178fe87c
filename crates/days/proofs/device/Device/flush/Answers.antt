use Rattle.std.proofs.Common.{◌+◌, drop, vec_items, sym, ap, ◌∙◌}
use Rattle.std.proofs.lemmas.List.{at_drop_all}
use Rattle.model.specs.Mail.{each}
use Rattle.model.specs.Device.{all_written}
use Rattle.days.specs.Held.{write_of}
use Rattle.days.proofs.Pages.{written_more, device_same}
use Rattle.days.proofs.device.Device.flush.Goals as goal

pub loop-write-preserved : goal.loop-write-preserved
loop-write-preserved c =
    c.loop-write.invariant ∙ written_more _ _ _ _ c.loop-write-test.true
    ∙ ap (λ ps. all_written ps (each write_of (drop (c.loop-write.write-index + 1) c.deref-write-items.result.now))) (sym c.place.ensures)

pub returns : goal.returns
unfolding all_written
returns c =
    device_same
    (sym (c.loop-write.invariant ∙ at_drop_all (λ ws. all_written (vec_items c.loop-write.self.1.0) (each write_of ws)) _ _ c.loop-write-test.false)
    ∙ ap (λ ws. all_written (vec_items c.args.self.now.pages) (each write_of ws)) c.deref-write-items.ensures.value)
    (ap (each write_of) c.clear.ensures.items)
