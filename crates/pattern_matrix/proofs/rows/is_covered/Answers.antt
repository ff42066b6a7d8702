use Rattle.std.proofs.Common.{take, subst, ap, ◌∙◌}
use Rattle.std.proofs.lemmas.List.{take-map}
use Rattle.pattern_matrix.specs.Search.{Finds, row_in}
use Rattle.pattern_matrix.specs.Views.{cells_view, shapes_view}
use Rattle.pattern_matrix.specs.Rows.{mark_of, near_lines}
use Rattle.pattern_matrix.proofs.Telling.{told}
use Rattle.pattern_matrix.proofs.rows.is_covered.Goals as goal

pub near_lines-requires : goal.near_lines-requires
near_lines-requires c = ap (take c.args.at) c.requires.marks ∙ take-map (mark_of c.args.place) c.args.at c.args.rows.now

pub returns : goal.returns
returns c =
    let rs = c.args.rows.now in
    let k = c.args.at in
    let p = c.args.place in
    let r = c.index-rows-at.result in
    let found = subst (λ l. Finds (row_in l (cells_view c.in_ok-cells_of.field-0.items)) (shapes_view c.in_ok-found.found)) c.in_ok-near.ensures c.in_ok-found.ensures in
    told rs k p r c.in_ok-found.found c.is_none.result c.requires.within c.index-rows-at.is c.is_none.ensures
    (subst (λ l. Finds (row_in (near_lines p (mark_of p r) (take k rs)) l) (shapes_view c.in_ok-found.found)) c.in_ok-cells_of.ensures found)
