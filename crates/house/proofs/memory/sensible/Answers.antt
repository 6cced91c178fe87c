-- Each test that fails is one of those that the definition asks for.
use Rattle.std.proofs.Common.{◌≡◌, ◌*◌, ◌≤◌, leb, is_some, sym, ap, ◌∙◌, subst, inl, inr, arith}
use mathlib.Core.Bool.{false≢true}
use Rattle.std.proofs.lemmas.Bool.{and_from, le-leb}
use Rattle.pages.specs.Geometry.{directory_pages}
use Rattle.house.specs.Memory.{pages_count}
use Rattle.house.specs.Does.{Ready}
use Rattle.house.proofs.Sensible.{Fits, not_sensible, fits_sensible, enough, too_many}
use Rattle.house.proofs.memory.sensible.Goals as goal

pub returns-in_err-geometry-clause-known : goal.returns-in_err-geometry-clause-known
returns-in_err-geometry-clause-known c =
    let m = c.args.memory.now in
    ap is_some c.from_residual.ensures
    ∙ not_sensible m (λ f. false≢true (c.in_err-geometry.ensures.known ∙ and_from (leb 256 (pages_count m)) (leb (pages_count m) 1048576) (le-leb 256 (pages_count m) f.least) (le-leb (pages_count m) 1048576 f.most)))

pub returns-then-houses-gt-MOST_HOUSES : goal.returns-then-houses-gt-MOST_HOUSES
returns-then-houses-gt-MOST_HOUSES c =
    record { known = not_sensible c.args.memory.now (λ f. elim c.then-houses-gt-MOST_HOUSES.either [ inl h ↦ omega arith | inr h ↦ elim h [ inl k ↦ omega arith | inr k ↦ omega arith ] ]); ready = tt }

pub returns-then-boxes-directory_words : goal.returns-then-boxes-directory_words
returns-then-boxes-directory_words c =
    let sized = c.in_ok-geometry.ensures.sized in
    let words = c.directory_words.ensures.is in
    let same : c.directory_words.result ≡ 64 * directory_pages (pages_count c.args.memory.now) = words ∙ ap (λ P. 64 * directory_pages P) sized in
    record { known = not_sensible c.args.memory.now (λ f. too_many _ _ _ c.directory_words.ensures.some same f.ready.boxes_fit c.if-boxes-directory_words.true); ready = tt }

pub returns : goal.returns
returns c =
    let m = c.args.memory.now in
    let sized : c.in_ok-geometry.geometry.pages ≡ pages_count m = c.in_ok-geometry.ensures.sized in
    let fit : Fits m = record {
      least = subst (λ P. 256 ≤ P) sized c.in_ok-geometry.geometry.least;
      most = subst (λ P. P ≤ 1048576) sized c.in_ok-geometry.geometry.most;
      long = omega arith;
      ready = record {
        houses_few = omega arith;
        area_known = omega arith;
        people_few = omega arith;
        boxes_fit = enough _ _ _ c.directory_words.ensures.some (c.directory_words.ensures.is ∙ ap (λ P. 64 * directory_pages P) sized) c.if-boxes-directory_words.false;
      };
    } in
    record { known = sym (fits_sensible m fit); ready = (sized, subst (λ P. Ready P m) (sym sized) fit.ready) }
