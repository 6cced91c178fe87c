-- A refusal, no value, and a value: each as it is answered.
use Rattle.header.proofs.Entries.{says_refused, says_none, says_value}
use Rattle.header.proofs.field_of.Goals as goal

pub returns-in-Ok-Some : goal.returns-in-Ok-Some
returns-in-Ok-Some c = says_value c.args.letter.now c.args.name.now c.args.out.now c.in-Ok-Some.length c.first_value_into.new.out (rw c.in-Ok-Some.field-0-is at c.in-Ok-Some.ensures)

pub returns-in-Ok-None : goal.returns-in-Ok-None
returns-in-Ok-None c = says_none c.args.letter.now c.args.name.now c.args.out.now c.first_value_into.new.out (rw c.in-Ok-None.field-0-is at c.in-Ok-None.ensures)

pub returns-in-Err : goal.returns-in-Err
returns-in-Err c = says_refused c.args.letter.now c.args.name.now c.args.out.now c.in-Err.refusal c.into.result c.first_value_into.new.out c.in-Err.ensures c.into.ensures
