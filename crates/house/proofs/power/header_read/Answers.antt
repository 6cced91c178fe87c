-- The words of the header say which way the definition goes.
use Rattle.std.proofs.Common.{refl, ◌≡◌, ◌&&◌, ltb, get_or, sym, ap, ◌∙◌, arith}
use borrow.Rule.Slice.PartMut.{put_mid}
use Rattle.std.proofs.lemmas.Bool.{lt-ltb, and_parts}
use Rattle.pages.specs.Words.{words_in}
use Rattle.pages.specs.Geometry.{selector_pages, selector_place}
use Rattle.pages.proofs.Words.{length_words_in}
use Rattle.pages.proofs.Geometry.{selector_pages_some}
use Rattle.house.specs.declared.refusal.Refusal.TheVariants.{NoCommand}
use Rattle.house.specs.declared.phase.Phase.TheVariants.{Idle, ReadSelectors}
use Rattle.house.specs.Memory.{in_phase}
use Rattle.house.proofs.Acts.{quietly_as, refused_quietly, told_read, told_done, some_test, some_place, none_test, handed_on}
use Rattle.house.proofs.Powers.{header_none, header_wrong, header_right, header_loaded, no_area}
use Rattle.house.proofs.Writes.{put_part}
use Rattle.house.proofs.power.header_read.Goals as goal

pub returns-then-header-eq0 : goal.returns-then-header-eq0
returns-then-header-eq0 c =
    let p = c.args.page.now in
    let words : c.load.new.words ≡ words_in 32 p = header_loaded p c.load.result c.load.new.words (omega arith) c.load.ensures.fits c.load.ensures.read in
    quietly_as _ _ (header_none c.args.geometry.now.pages p c.args.memory.now (ap (λ l. get_or l 0 0) (sym words) ∙ c.if-header-eq0.true))
    (c.store.ensures ∙ ap (in_phase Idle) c.make_first_house.ensures, told_done)

pub returns-in_err-place : goal.returns-in_err-place
returns-in_err-place c =
    let p = c.args.page.now in
    let P = c.args.geometry.now.pages in
    let none = handed_on c.selector_place.result NoCommand c.in_err-place.field-0.0 c.from_residual.result c.in_err-place.ensures.value c.from_residual.ensures.1 in
    let words : c.load.new.words ≡ words_in 32 p = header_loaded p c.load.result c.load.new.words (omega arith) c.load.ensures.fits c.load.ensures.read in
    rw none.1 (refused_quietly c.args.memory.now 1 1 refl
    (header_wrong P p c.args.memory.now (λ e. c.if-header-eq0.false (ap (λ l. get_or l 0 0) words ∙ e))
    (ap (λ l. ltb (get_or l 1 0) 2) (sym words) ∙ no_area (ltb (get_or c.load.new.words 1 0) 2) (ltb 0 (selector_pages P)) (lt-ltb 0 (selector_pages P) (selector_pages_some P)) (none_test _ _ (sym none.0 ∙ c.selector_place.ensures)))))

pub returns : goal.returns
returns c =
    let p = c.args.page.now in
    let P = c.args.geometry.now.pages in
    let m = c.args.memory.now in
    let words : c.load.new.words ≡ words_in 32 p = header_loaded p c.load.result c.load.new.words (omega arith) c.load.ensures.fits c.load.ensures.read in
    let there = some_test (ltb (get_or c.load.new.words 1 0) 2 && ltb 0 (selector_pages P)) _ c.in_ok-place.place (sym c.in_ok-place.ensures.ok_part ∙ c.selector_place.ensures) in
    quietly_as _ _ (header_right P p m (λ e. c.if-header-eq0.false (ap (λ l. get_or l 0 0) words ∙ e))
    (ap (λ l. ltb (get_or l 1 0) 2) (sym words) ∙ (and_parts (ltb (get_or c.load.new.words 1 0) 2) (ltb 0 (selector_pages P)) there).0)) (
      c.store-2.ensures ∙ ap (in_phase (ReadSelectors 0)) (ap (put_mid 64 32 m) (c.copy_from_slice.ensures.after ∙ words) ∙ put_part m 64 32 (words_in 32 p) (length_words_in 32 p)),
      told_read (selector_place P (get_or (words_in 32 p) 1 0) 0) c.in_ok-place.place (some_place _ _ c.in_ok-place.place there (sym c.in_ok-place.ensures.ok_part ∙ c.selector_place.ensures) ∙ ap (λ l. selector_place P (get_or l 1 0) 0) words),
    )
