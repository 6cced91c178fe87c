-- What does not fit is refused; what fits is answered in the front of the row.
use Rattle.house.proofs.Acts.{told_from}
use Rattle.house.proofs.Taken.{untold_memory, untold_out, not_told, told}
use Rattle.house.proofs.Whole.{whole}
use Rattle.house.proofs.tell.Goals as goal

pub returns-in_default : goal.returns-in_default
returns-in_default c = record { says = not_told _ _ _ (untold_memory _ _ c.in_default.ensures.cases); whole = whole }

pub returns-in_default-first_chunk_mut : goal.returns-in_default-first_chunk_mut
returns-in_default-first_chunk_mut c = record {
  says = rw c.in-Some.ensures.cases.same (not_told _ _ _ (untold_out _ _ c.in_default-first_chunk_mut.ensures.cases));
  whole = whole;
}

pub returns : goal.returns
returns c = record {
  says = rw (told_from _ _ c.unwrap_or_else.ensures) (told _ _ _ _ _ _ _ _ c.in-Some.ensures.cases c.in-Some-first_chunk_mut.ensures.cases c.respond.ensures.long c.respond.ensures.says);
  whole = whole;
}
