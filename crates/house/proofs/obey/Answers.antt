-- The command that was read is the one that the text spells.
use Rattle.std.proofs.Common.{Some, sym, refl, ap, ◌∙◌}
use Rattle.std.specs.Option.{option_map}
use Rattle.house.specs.declared.refusal.Refusal.TheVariants.{NoCommand}
use Rattle.model.specs.House.{join, boxes, new_box}
use Rattle.commands.specs.Meaning.{meaning}
use Rattle.commands.specs.Reader.{command_of}
use Rattle.house.specs.Machine.{obeys}
use Rattle.house.proofs.Acts.{does_as, refused_does, handed_on}
use Rattle.house.proofs.Turns.{command_none, command_some, not_known, join_short, new_box_short}
use Rattle.house.proofs.obey.Goals as goal

pub returns-in_err-name : goal.returns-in_err-name
unfolding obeys
returns-in_err-name c =
    let none = handed_on c.read.result NoCommand c.in_err-name.field-0.0 c.from_residual.result c.in_err-name.ensures.value c.from_residual.ensures.1 in
    rw none.1 (refused_does c.args.memory.now c.args.out.now 1 1 refl
    (ap (λ o. obeys c.args.geometry.now.pages o c.args.memory.now) (command_none (command_of c.args.text.now) (ap (option_map meaning) (sym none.0) ∙ c.read.ensures.answers))))

pub invariant_of-join : goal.invariant_of-join
invariant_of-join c = record {
  short = join_short c.read.ensures.reads c.args.text.now c.in-Join.name.now
      (command_some (command_of c.args.text.now) (join c.in-Join.name.now) (ap (λ l. Some (meaning l)) (sym c.in-Join.is) ∙ ap (option_map meaning) (sym c.in_ok-name.ensures.ok_part) ∙ c.read.ensures.answers));
}

pub invariant_of-new_box : goal.invariant_of-new_box
invariant_of-new_box c = record {
  short = new_box_short c.read.ensures.reads c.args.text.now c.in-NewBox.person c.in-NewBox.name.now
      (command_some (command_of c.args.text.now) (new_box c.in-NewBox.person c.in-NewBox.name.now) (ap (λ l. Some (meaning l)) (sym c.in-NewBox.is) ∙ ap (option_map meaning) (sym c.in_ok-name.ensures.ok_part) ∙ c.read.ensures.answers));
}

pub returns-in-Join : goal.returns-in-Join
unfolding obeys
returns-in-Join c =
    does_as _ _ _ _
    (ap (λ o. obeys c.args.geometry.now.pages o c.args.memory.now)
    (command_some (command_of c.args.text.now) (join c.in-Join.name.now) (ap (λ l. Some (meaning l)) (sym c.in-Join.is) ∙ ap (option_map meaning) (sym c.in_ok-name.ensures.ok_part) ∙ c.read.ensures.answers)))
    c.join.ensures

pub returns-in-Boxes : goal.returns-in-Boxes
unfolding obeys
returns-in-Boxes c =
    does_as _ _ _ _
    (ap (λ o. obeys c.args.geometry.now.pages o c.args.memory.now)
    (command_some (command_of c.args.text.now) (boxes c.in-Boxes.person) (ap (λ l. Some (meaning l)) (sym c.in-Boxes.is) ∙ ap (option_map meaning) (sym c.in_ok-name.ensures.ok_part) ∙ c.read.ensures.answers)))
    c.boxes.ensures

pub returns-in-NewBox : goal.returns-in-NewBox
unfolding obeys
returns-in-NewBox c =
    does_as _ _ _ _
    (ap (λ o. obeys c.args.geometry.now.pages o c.args.memory.now)
    (command_some (command_of c.args.text.now) (new_box c.in-NewBox.person c.in-NewBox.name.now) (ap (λ l. Some (meaning l)) (sym c.in-NewBox.is) ∙ ap (option_map meaning) (sym c.in_ok-name.ensures.ok_part) ∙ c.read.ensures.answers)))
    c.new_box.ensures

pub returns-in_default : goal.returns-in_default
returns-in_default c =
    refused_does c.args.memory.now c.args.out.now 2 2 refl
    (not_known c.args.geometry.now.pages c.args.memory.now (command_of c.args.text.now) c.in_ok-name.field-0 (ap (option_map meaning) (sym c.in_ok-name.ensures.ok_part) ∙ c.read.ensures.answers)
    c.in_default.not-Join c.in_default.not-Boxes c.in_default.not-NewBox)
