-- One more selector page, or the flush.
use Rattle.std.proofs.Common.{le-ltb, lt-ltb}
use Rattle.pages.specs.Geometry.{selector_pages}
use Rattle.house.specs.Machine.{selectors_next}
use Rattle.house.proofs.Acts.{told_flush}
use Rattle.house.proofs.commit.selectors_next.Goals as goal

pub returns-then-q-selector_pages : goal.returns-then-q-selector_pages
unfolding selectors_next
returns-then-q-selector_pages c =
    rw (lt-ltb c.args.q (selector_pages c.args.geometry.now.pages) (rw c.selector_pages.ensures at c.if-q-selector_pages.true)) c.write_selectors.ensures

pub returns : goal.returns
unfolding selectors_next
returns c =
    rw (le-ltb c.args.q (selector_pages c.args.geometry.now.pages) (rw c.selector_pages.ensures at c.if-q-selector_pages.false)) (c.store.ensures, told_flush c.args.out.now)
