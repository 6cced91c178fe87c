-- The page that is found is the first that was touched.
use Rattle.std.proofs.Common.{Some, None, sym}
use Rattle.house.specs.Machine.{commit}
use Rattle.house.proofs.Touches.{next_is, next_below}
use Rattle.house.proofs.commit.commit.Goals as goal

pub write_table-requires : goal.write_table-requires
write_table-requires c =
    next_below c.args.geometry.now.pages c.args.memory.now c.args.from c.directory_pages.result _ _ c.in-Some.t
    c.selectors_at.ensures c.selectors_at-2.ensures c.directory_pages.ensures c.in-Some.ensures

pub returns-in-None : goal.returns-in-None
unfolding commit
returns-in-None c =
    rw (sym (next_is c.args.geometry.now.pages c.args.memory.now c.args.from c.directory_pages.result _ _ None
    c.selectors_at.ensures c.selectors_at-2.ensures c.directory_pages.ensures c.in-None.ensures)) c.write_selectors.ensures

pub returns-in-Some : goal.returns-in-Some
unfolding commit
returns-in-Some c =
    rw (sym (next_is c.args.geometry.now.pages c.args.memory.now c.args.from c.directory_pages.result _ _ (Some c.in-Some.t)
    c.selectors_at.ensures c.selectors_at-2.ensures c.directory_pages.ensures c.in-Some.ensures)) c.write_table.ensures
