use Rattle.std.proofs.Common.{[], length, get_or, reverse, rules, tests, eqb, arith, ap, sym, ◌∙◌}
use Rattle.std.specs.List.{find}
use Rattle.model.proofs.Places.{page_at_is}
use Rattle.std.proofs.lemmas.Iterator.Search.{find_from_yields_List}
use Rattle.std.proofs.lemmas.Iterator.Adapters.{YieldsList-from_rev_slice}
use Rattle.days.specs.declared.device.Waiting.{Waiting}
use Rattle.days.proofs.Pages.{seen, seen_by, seen_is}
use Rattle.days.proofs.device.Device.read.Goals as goal

pub returns-clause-seen : goal.returns-clause-seen
returns-clause-seen c =
    let found = find_from_yields_List (λ (w : Waiting). eqb w.page c.args.page) _ _ c.find-waits.result c.find-waits.ensures.ran (YieldsList-from_rev_slice c.args.self.now.waiting.items (cc)) (λ x b q k. search (rules, tests)) in
    let kept = c.in_ok-kept.ensures.lookup in
    seen_by c.find-waits.result _ _ _ _ (λ x m. search rules) c.map_or.ensures found
    ∙ ap (λ p. seen p (find (λ (w : Waiting). eqb w.page c.args.page) (reverse c.args.self.now.waiting.items)))
    (kept.3.1 [] ∙ ap (λ ps. get_or ps c.args.page []) c.deref.ensures.value ∙ sym (page_at_is c.args.self.now.pages.items c.args.page))
    ∙ sym (seen_is c.args.self.now.pages.items c.args.self.now.waiting.items c.args.page (omega (arith, kept.3.0, ap length c.deref.ensures.value)))
