-- The twin that is to count is there, since the directory lies in the table.
use Rattle.std.proofs.Common.{◌<◌, ltb, sym, ap, ◌∙◌, arith, lt-ltb}
use Rattle.pages.specs.Geometry.{table_pages, table_place}
use Rattle.house.proofs.Acts.{some_place}
use Rattle.house.proofs.memory.coming_place.Goals as goal

pub returns : goal.returns
returns c =
    let P = c.args.geometry.now.pages in
    let t = c.args.t in
    let here : t < table_pages P = omega arith in
    some_place (ltb t (table_pages P)) _ c.unwrap.result (lt-ltb t (table_pages P) here) (sym c.unwrap.ensures ∙ c.table_place.ensures)
    ∙ ap (λ ws. table_place P ws t) c.selectors_at.ensures
