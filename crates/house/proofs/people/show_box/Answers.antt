-- The next box is found as the definition finds it, and its row fits.
use Rattle.std.proofs.Common.{◌≡◌, ℕ, List, ◌++◌, length, drop, Some, None, sym, ap, ◌∙◌, arith}
use Rattle.model.specs.House.{box_row}
use Rattle.mailboxes.specs.Directory.{box_of}
use Rattle.mailboxes.specs.Row.{row_over}
use Rattle.house.specs.Memory.{directory_of}
use Rattle.house.proofs.Acts.{does_as, some_place, there, told_done, told_shows}
use Rattle.house.proofs.Joins.{box_next, next_fits, shows_none, shows_some}
use Rattle.house.proofs.people.show_box.Goals as goal

pub returns-in_default : goal.returns-in_default
returns-in_default c =
    does_as _ _ _ _
    (shows_none c.args.geometry.now.pages c.args.person c.args.from c.args.memory.now (box_next _ _ _ _ _ c.directory-kept.ensures c.args.person c.args.from None c.in_default.ensures))
    (c.store.ensures, told_done c.args.out.now)

pub unwrap-len-requires : goal.unwrap-len-requires
unwrap-len-requires c = there _ _ _ (next_fits _ _ c.args.person c.args.from c.in-Some.index c.args.out.now (omega arith) c.in-Some.ensures) c.box_row.ensures.says

pub returns : goal.returns
returns c =
    let m = c.args.memory.now in
    let P = c.args.geometry.now.pages in
    let out = c.args.out.now in
    let i = c.in-Some.index in
    let words : List ℕ = c.directory-kept.result.words.now in
    let boxes : ℕ = c.directory-kept.result.boxes in
    let fits = next_fits boxes words c.args.person c.args.from i out (omega arith) c.in-Some.ensures in
    let row : box_row (box_of words i) ≡ box_row (box_of (directory_of P m) i) = ap (λ ws. box_row (box_of ws i)) c.directory-kept.ensures.words_are in
    does_as _ _ _ _ (shows_some P c.args.person c.args.from m i (box_next _ _ _ _ _ c.directory-kept.ensures c.args.person c.args.from (Some i) c.in-Some.ensures)) (
      c.store-2.ensures,
      told_shows c.unwrap-len.result (box_row (box_of (directory_of P m) i)) out c.box_row.new.out
          (some_place _ _ c.unwrap-len.result fits (sym c.unwrap-len.ensures ∙ c.box_row.ensures.says) ∙ ap length row)
          (c.box_row.ensures.written ∙ ap (λ t. row_over t (box_row (box_of words i)) out) fits ∙ ap (λ r. r ++ drop (length r) out) row),
    )
