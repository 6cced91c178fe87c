-- The value fits, since it is no longer than the letter.
use Rattle.std.proofs.Common.{sym, ◌∙◌, arith}
use Rattle.header.proofs.Entries.{refusal_fits}
use Rattle.header.proofs.Lines.{first_fits}
use Rattle.header.proofs.first_value_into.Goals as goal

pub copy_lowercase-requires : goal.copy_lowercase-requires
copy_lowercase-requires c =
    omega (
      arith,
      refusal_fits c.args.letter.now c.args.name.now c.args.out.now c.in_ok-admitted.ensures,
      first_fits c.args.name.now c.args.letter.now c.in-Some.value.now _ (sym c.new.ensures.value ∙ c.in-Some.ensures.steps),
    )
