-- The page comes to both selector words; then there is a next one, or the directory.
use Rattle.std.proofs.Common.{refl, ◌≡◌, ◌+◌, ◌*◌, ◌<◌, ◌≤◌, ◌&&◌, ltb, ap, ◌∙◌, subst}
use Rattle.std.proofs.lemmas.Bool.{lt-ltb, and_parts}
use Rattle.pages.specs.Words.{words_in, patched}
use Rattle.pages.specs.Geometry.{selector_pages, selector_place}
use Rattle.house.specs.declared.phase.Phase.TheVariants.{ReadSelectors}
use Rattle.house.specs.Memory.{area_of, in_phase}
use Rattle.house.specs.Machine.{with_selectors}
use Rattle.house.specs.Does.{Quietly, directory_asked}
use Rattle.house.proofs.Acts.{quietly_as, refused_quietly, told_read, some_test, some_place, none_test}
use Rattle.house.proofs.Powers.{selectors_wrong, selectors_more, selectors_last, no_page}
use Rattle.house.proofs.power.selectors_read.Goals as goal

pub returns-then-q-selector_pages : goal.returns-then-q-selector_pages
returns-then-q-selector_pages c =
    refused_quietly c.args.memory.now 1 1 refl
    (selectors_wrong c.args.geometry.now.pages c.args.q c.args.page.now c.args.memory.now (subst (λ n. n ≤ c.args.q) c.selector_pages.ensures c.if-q-selector_pages.true))

pub returns-in-Some : goal.returns-in-Some
returns-in-Some c =
    let m = c.args.memory.now in
    let p = c.args.page.now in
    let P = c.args.geometry.now.pages in
    let q = c.args.q in
    let here : q < selector_pages P = subst (λ n. q < n) c.selector_pages.ensures c.if-q-selector_pages.false in
    let there = some_test (ltb (area_of m) 2 && ltb (q + 1) (selector_pages P)) _ c.in-Some.place c.in-Some.ensures in
    let both : c.load_page-2.new.memory ≡ with_selectors q p m = c.load_page-2.ensures ∙ ap (λ l. patched l (1184 + 64 * q) (words_in 64 p)) c.load_page.ensures in
    quietly_as _ _ (selectors_more P q p m here (and_parts (ltb (area_of m) 2) (ltb (q + 1) (selector_pages P)) there).1) (
      c.store.ensures ∙ ap (in_phase (ReadSelectors (q + 1))) both,
      told_read (selector_place P (area_of m) (q + 1)) c.in-Some.place (some_place _ _ c.in-Some.place there c.in-Some.ensures),
    )

pub returns-in-None : goal.returns-in-None
returns-in-None c =
    let m = c.args.memory.now in
    let p = c.args.page.now in
    let P = c.args.geometry.now.pages in
    let q = c.args.q in
    let here : q < selector_pages P = subst (λ n. q < n) c.selector_pages.ensures c.if-q-selector_pages.false in
    let both : c.load_page-2.new.memory ≡ with_selectors q p m = c.load_page-2.ensures ∙ ap (λ l. patched l (1184 + 64 * q) (words_in 64 p)) c.load_page.ensures in
    quietly_as _ _ (selectors_last P q p m here (no_page (ltb (area_of m) 2) (ltb (q + 1) (selector_pages P)) (lt-ltb (area_of m) 2 c.requires) (none_test _ _ c.in-None.ensures)))
    (subst (λ l. Quietly (directory_asked P 0 l) c.read_directory.result c.read_directory.new.memory) both c.read_directory.ensures)
