-- The search ends with the words, and past them nothing is touched.
use Rattle.std.proofs.Common.{◌≡◌, ◌≢◌, rules, arith}
use borrow.Author.Tests.{tests}
use Rattle.std.proofs.lemmas.Iterator.{first_from_Range}
use Rattle.pages.specs.Bits.{bit}
use Rattle.pages.proofs.Touched.{first_touched_by_search, same_past}
use Rattle.pages.proofs.selectors.next_touched.Goals as goal

pub returns : goal.returns
returns c =
    let counting = c.args.counting.now in
    let coming = c.args.coming.now in
    let found =
    first_touched_by_search counting coming c.args.from c.args.end c.min-end.result c.find.result (omega arith)
    (λ u a b. same_past counting coming u (omega arith) (omega arith))
    (first_from_Range _ _ _ _ (λ t. bit counting t ≢ bit coming t) (λ t. bit counting t ≡ bit coming t) c.find.ensures.ran (λ x q k. search (rules, tests)) (λ x q k. search (rules, tests))) in
    grind (arith, found)
