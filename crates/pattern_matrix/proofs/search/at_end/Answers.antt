use Rattle.std.proofs.Common.{Some, [], sym, subst, arith, map}
use Rattle.std.proofs.lemmas.List.{length-map}
use Rattle.pattern_matrix.specs.Search.{Finds, row_in}
use Rattle.pattern_matrix.specs.Views.{line_view, lines_view, shape_of}
use Rattle.pattern_matrix.proofs.Finding.{end-missed, end-covered}
use Rattle.pattern_matrix.proofs.search.at_end.Goals as goal

pub returns-in-empty : goal.returns-in-empty
returns-in-empty c =
    let none = end-missed (lines_view c.args.lines.now) (omega (arith, length-map c.args.lines.now line_view)) in
    subst (λ xs. Finds (row_in (lines_view c.args.lines.now) []) (Some (map shape_of xs))) (sym c.new.ensures.items) none

pub returns-in_default : goal.returns-in_default
returns-in_default c = end-covered (lines_view c.args.lines.now) (omega (arith, length-map c.args.lines.now line_view))
