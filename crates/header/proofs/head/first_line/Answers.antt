-- The line ends at the first end of a line, or with the bytes.
use Rattle.std.proofs.Common.{◌+◌, eqb, length, take, drop, suc, sym, ap, ◌∙◌, arith, rules, take_all, add-one}
use Rattle.std.proofs.lemmas.List.{take_rest, drop_all}
use Rattle.std.proofs.lemmas.List.Sums.{position_or_len_is}
use Rattle.header.proofs.Lines.{line_of_first, after_line_first}
use Rattle.header.proofs.head.first_line.Goals as goal

pub returns-in-Some : goal.returns-in-Some
returns-in-Some c =
    let bytes = c.args.bytes.now in
    let found = position_or_len_is (λ b. eqb b 10) bytes c.in-Some.end 0 (search rules) (search rules) (search rules) in
    record {
      line = sym (line_of_first bytes ∙ ap (λ n. take n bytes) found);
      rest = take_rest bytes (c.in-Some.end + 1) ∙ rw add-one (sym (after_line_first bytes ∙ ap (λ n. drop (suc n) bytes) found));
    }

pub returns-in-None : goal.returns-in-None
returns-in-None c =
    let bytes = c.args.bytes.now in
    let none = position_or_len_is (λ b. eqb b 10) bytes (length bytes) 0 (omega arith) (search rules) (search rules) in
    record {
      line = sym (line_of_first bytes ∙ ap (λ n. take n bytes) none ∙ take_all (length bytes) bytes (omega arith));
      rest = sym (after_line_first bytes ∙ ap (λ n. drop (suc n) bytes) none ∙ drop_all (suc (length bytes)) bytes (omega arith));
    }
