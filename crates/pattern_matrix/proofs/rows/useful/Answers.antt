use Rattle.std.proofs.Common.{ℕ, ◌≤◌, ◌∷◌, List, subst}
use Rattle.std.specs.Prelude.{option_map}
use Rattle.std.proofs.lemmas.Result.{IfOk-weaker}
use Rattle.type_model.specs.Types.{Typ}
use Rattle.match_model.specs.Forms.{World}
use Rattle.match_model.specs.Rows.{deepest}
use Rattle.pattern_matrix.specs.Views.{cells_view, shape_of}
use Rattle.pattern_matrix.specs.Rows.{line_of, lines_of, FindsShape}
use Rattle.pattern_matrix.specs.Typing.{IsSound}
use Rattle.pattern_matrix.specs.Exact.{row_of, rows_of, IsRowTyped, AreRowsTyped, Tells}
use Rattle.pattern_matrix.proofs.Exactness.{tells}
use Rattle.pattern_matrix.proofs.rows.useful.Goals as goal

pub returns-clause-rule : goal.returns-clause-rule
returns-clause-rule c =
    let rs = c.args.matrix.now.rows.items in
    let r = c.args.row.now in
    IfOk-weaker c.find_shape.result (λ o. FindsShape (lines_of c.deref.result.now) (cells_view c.in_ok-row.row.items) (option_map shape_of o))
    (λ o. FindsShape (lines_of rs) (line_of r) (option_map shape_of o))
    (λ o f. subst (λ l. FindsShape (lines_of rs) l (option_map shape_of o)) c.in_ok-row.ensures
    (subst (λ xs. FindsShape (lines_of xs) (cells_view c.in_ok-row.row.items) (option_map shape_of o)) c.deref.ensures.value f)) c.find_shape.ensures

pub returns-clause-meaning : goal.returns-clause-meaning
returns-clause-meaning c =
    let rs = c.args.matrix.now.rows.items in
    let r = c.args.row.now in
    IfOk-weaker c.find_shape.result (λ o. FindsShape (lines_of c.deref.result.now) (cells_view c.in_ok-row.row.items) (option_map shape_of o))
    (λ o. (w : World) (ts : List Typ) (d : ℕ) → IsSound w → AreRowsTyped w ts rs → IsRowTyped w ts r → deepest (row_of r ∷ rows_of rs) ≤ d → Tells w ts d (rows_of rs) (row_of r) (option_map shape_of o))
    (λ o f. tells rs r (option_map shape_of o) (subst (λ l. FindsShape (lines_of rs) l (option_map shape_of o)) c.in_ok-row.ensures
    (subst (λ xs. FindsShape (lines_of xs) (cells_view c.in_ok-row.row.items) (option_map shape_of o)) c.deref.ensures.value f))) c.find_shape.ensures
