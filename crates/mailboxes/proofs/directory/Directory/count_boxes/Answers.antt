-- One more is counted where the box is this person's.
use Rattle.std.proofs.Common.{◌+◌, sym, refl, ap, ◌∙◌, arith}
use Rattle.mailboxes.specs.Directory.{owns, count_up}
use Rattle.mailboxes.proofs.Places.{length_count_up, length_those, count_yes, count_no}
use Rattle.mailboxes.proofs.directory.Directory.count_boxes.Goals as goal
use Rattle.mailboxes.proofs.directory.Directory.count_boxes.Goals.{then-owns, else-owns}

pub loop-index-init : goal.loop-index-init
unfolding count_up
loop-index-init c = refl

pub overflow_add-count : goal.overflow_add-count
overflow_add-count c =
    omega (
      arith,
      length_those (owns c.args.self.now.words.now c.args.person) (count_up 0 c.loop-index.index),
      length_count_up c.loop-index.index 0,
    )

pub loop-index-preserved : goal.loop-index-preserved
loop-index-preserved c =
    let mine = owns c.args.self.now.words.now c.args.person in
    elim c.if-owns.branch [
      | then-owns w ↦ w.count-is ∙ ap (λ n. n + 1) c.loop-index.invariant ∙ sym (count_yes mine c.loop-index.index (sym c.owns.ensures ∙ w.if-owns.true))
      | else-owns w ↦ w.count-is ∙ c.loop-index.invariant ∙ sym (count_no mine c.loop-index.index (sym c.owns.ensures ∙ w.if-owns.false))
    ]
