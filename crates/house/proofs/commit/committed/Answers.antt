-- A number is shown, or nothing.
use Rattle.std.proofs.Common.{◌-◌, ◌++◌, drop, sym, refl, ap, ◌∙◌, eq-eqb, ne_eqb, arith}
use Rattle.model.specs.Mail.{eight, in_bytes}
use Rattle.pages.proofs.Words.{eight_is}
use Rattle.house.specs.declared.phase.Phase.TheVariants.{Idle, Shown}
use Rattle.house.specs.Memory.{to_show, in_phase}
use Rattle.house.specs.Machine.{committed}
use Rattle.house.proofs.Acts.{told_done, told_shows}
use Rattle.house.proofs.commit.committed.Goals as goal

pub returns-in_default : goal.returns-in_default
unfolding committed
returns-in_default c =
    rw (eq-eqb (to_show c.args.memory.now) 0 (omega arith))
    (c.store.ensures ∙ ap (in_phase Idle) c.count_coming.ensures, told_done c.args.out.now)

pub returns : goal.returns
unfolding committed in_bytes
returns c =
    let n = c.in-Some.number in
    let bytes = c.copy_from_slice.ensures.after ∙ c.to_be_bytes.ensures ∙ sym (eight_is n) ∙ ap eight c.in-Some.ensures.1 in
    rw (ne_eqb (to_show c.args.memory.now) 0 (λ e. omega arith)) (
      c.store-2.ensures ∙ ap (in_phase Shown) c.count_coming.ensures,
      told_shows 8 (eight (to_show c.args.memory.now - 1)) c.args.out.now _ refl (ap (λ r. r ++ drop 8 c.args.out.now) bytes),
    )
