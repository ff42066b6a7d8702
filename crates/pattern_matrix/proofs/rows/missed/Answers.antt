use Rattle.std.proofs.Common.{◌≡◌, List, length, ◌∙◌, subst}
use Rattle.std.specs.Prelude.{option_map}
use Rattle.std.proofs.lemmas.Result.{IfOk-weaker}
use Rattle.type_model.specs.Types.{Typ}
use Rattle.match_model.specs.Forms.{World}
use Rattle.pattern_matrix.specs.Lines.{opened}
use Rattle.pattern_matrix.specs.Views.{cells_view, shape_of}
use Rattle.pattern_matrix.specs.Rows.{lines_of, FindsShape}
use Rattle.pattern_matrix.specs.Typing.{IsSound}
use Rattle.pattern_matrix.specs.Exact.{rows_of, AreRowsTyped, TellsMissed}
use Rattle.pattern_matrix.proofs.Exactness.{tells-missed, nothing-behind}
use Rattle.pattern_matrix.proofs.rows.missed.Goals as goal

pub returns : goal.returns
returns c =
    let rs = c.args.matrix.now.rows.items in
    let n = c.args.columns in
    let row : cells_view c.in_ok-row.row.items ≡ opened n = c.in_ok-row.ensures ∙ nothing-behind (opened n) in
    IfOk-weaker c.find_shape.result (λ o. FindsShape (lines_of c.deref.result.now) (cells_view c.in_ok-row.row.items) (option_map shape_of o))
    (λ o. (w : World) (ts : List Typ) → IsSound w → AreRowsTyped w ts rs → length ts ≡ n → TellsMissed w ts (rows_of rs) (option_map shape_of o))
    (λ o f. tells-missed rs n (option_map shape_of o)
    (subst (λ l. FindsShape (lines_of rs) l (option_map shape_of o)) row (subst (λ xs. FindsShape (lines_of xs) (cells_view c.in_ok-row.row.items) (option_map shape_of o)) c.deref.ensures.value f)))
    c.find_shape.ensures
