use Rattle.type_expressions.proofs.Untyped.{store_untyped, ok_any}
use Rattle.std.proofs.lemmas.Result.{IfOk-weaker}
use Rattle.row_parts.specs.Numbered.{token_view}
use Rattle.syntax_tree.specs.View.{node_view}
use Rattle.type_nodes.specs.Views.{numbers}
use Rattle.typing_rows.proofs.Ended.{var_ends, paren_ends, tuple_ends, arrow_ends, other_ends}
use Rattle.type_expressions.proofs.Answering.{if_any}
use Rattle.type_expressions.proofs.Carrying.{var_row, paren_row, tuple_row, arrow_row}
use Rattle.typing_rows.proofs.DeclaredOrdered.{silent_reports, store_reports}
use Rattle.typing_rows.proofs.DeclaredEnded as settled
use Rattle.declared_rows.proofs.Ended as denoted
use Rattle.type_expressions.proofs.types.composed.Goals as goal

pub returns-in-Tvar-clause-carries : goal.returns-in-Tvar-clause-carries
returns-in-Tvar-clause-carries c =
    IfOk-weaker c.variable.result _ _ (λ m reads item. var_ends c.args.at.now c.variable.new.at (node_view c.args.node.now) (token_view c.token.result) (numbers c.args.types.now) m.0 (var_row c.args.node.now c.in-Tvar.is) c.token.ensures (reads item)) c.variable.ensures.carries

pub returns-in-Tparen-clause-carries : goal.returns-in-Tparen-clause-carries
returns-in-Tparen-clause-carries c =
    IfOk-weaker c.in_parentheses.result _ _ (λ m ends item. paren_ends c.args.at.now c.in_parentheses.new.at c.args.node.now (numbers c.args.types.now) m.0 (paren_row c.args.node.now c.in-Tparen.is) (ends item)) c.in_parentheses.ensures.carries

pub returns-in-Ttuple-clause-carries : goal.returns-in-Ttuple-clause-carries
returns-in-Ttuple-clause-carries c =
    IfOk-weaker c.tuple.result _ _ (λ m made item. tuple_ends c.args.at.now c.tuple.new.self (node_view c.args.node.now) (numbers c.args.types.now) m.0 (tuple_row c.args.node.now c.in-Ttuple.is) made c.tuple.ensures.rest) c.tuple.ensures.made

pub returns-in-Tarrow-clause-carries : goal.returns-in-Tarrow-clause-carries
returns-in-Tarrow-clause-carries c =
    IfOk-weaker c.arrow_between.result _ _ (λ m made item. arrow_ends c.args.at.now c.arrow_between.new.at (node_view c.args.node.now) (numbers c.args.types.now) m.0 (arrow_row c.args.node.now c.in-Tarrow.is) (made item)) c.arrow_between.ensures.carries

pub returns-in_default-clause-carries : goal.returns-in_default-clause-carries
returns-in_default-clause-carries c =
    IfOk-weaker c.unresolved.result _ _ (λ m any item.
    other_ends c.args.at.now c.unresolved.new.at c.args.node.now (numbers c.args.types.now) m.0 c.in_default.not-Tvar c.in_default.not-Tparen c.in_default.not-Ttuple c.in_default.not-Tarrow (any item) c.unresolved.ensures.rest) c.unresolved.ensures.any

pub returns-in-Tvar-clause-settles : goal.returns-in-Tvar-clause-settles
returns-in-Tvar-clause-settles c =
    IfOk-weaker c.variable.result _ _ (λ m reads names over. settled.var_ends c.args.at.now c.variable.new.at names (node_view c.args.node.now) (token_view c.token.result) (numbers c.args.types.now) (var_row c.args.node.now c.in-Tvar.is) c.token.ensures (reads names over)) c.variable.ensures.settles

pub returns-in-Tparen-clause-settles : goal.returns-in-Tparen-clause-settles
returns-in-Tparen-clause-settles c =
    IfOk-weaker c.in_parentheses.result _ _ (λ m ends names over. settled.paren_ends c.args.at.now c.in_parentheses.new.at names c.args.node.now (numbers c.args.types.now) (paren_row c.args.node.now c.in-Tparen.is) (ends names over)) c.in_parentheses.ensures.settles

pub returns-in-Ttuple-clause-settles : goal.returns-in-Ttuple-clause-settles
returns-in-Ttuple-clause-settles c =
    if_any c.tuple.result _ (λ m names over. settled.tuple_ends c.args.at.now c.tuple.new.self names (node_view c.args.node.now) (numbers c.args.types.now) (tuple_row c.args.node.now c.in-Ttuple.is) (store_reports c.args.at.now c.tuple.new.self c.tuple.ensures.rest))

pub returns-in-Tarrow-clause-settles : goal.returns-in-Tarrow-clause-settles
returns-in-Tarrow-clause-settles c =
    if_any c.arrow_between.result _ (λ m names over.
    settled.arrow_ends c.args.at.now c.arrow_between.new.at names (node_view c.args.node.now) (numbers c.args.types.now) (arrow_row c.args.node.now c.in-Tarrow.is) (silent_reports c.args.at.now c.arrow_between.new.at c.arrow_between.ensures.silent))

pub returns-in_default-clause-settles : goal.returns-in_default-clause-settles
returns-in_default-clause-settles c =
    if_any c.unresolved.result _ (λ m names over.
    settled.other_ends c.args.at.now c.unresolved.new.at names c.args.node.now (numbers c.args.types.now) c.in_default.not-Tvar c.in_default.not-Tparen c.in_default.not-Ttuple c.in_default.not-Tarrow (silent_reports c.args.at.now c.unresolved.new.at c.unresolved.ensures.silent))

pub returns-in-Tvar-clause-means : goal.returns-in-Tvar-clause-means
returns-in-Tvar-clause-means c =
    IfOk-weaker c.variable.result _ _ (λ m reads names ps over nodes. denoted.var_ends c.args.at.now c.variable.new.at names ps (node_view c.args.node.now) (token_view c.token.result) (numbers c.args.types.now) m.0 (var_row c.args.node.now c.in-Tvar.is) c.token.ensures (reads names ps over nodes)) c.variable.ensures.means

pub returns-in-Tparen-clause-means : goal.returns-in-Tparen-clause-means
returns-in-Tparen-clause-means c =
    IfOk-weaker c.in_parentheses.result _ _ (λ m ends names ps over nodes. denoted.paren_ends c.args.at.now c.in_parentheses.new.at names ps c.args.node.now (numbers c.args.types.now) m.0 (paren_row c.args.node.now c.in-Tparen.is) (ends names ps over nodes)) c.in_parentheses.ensures.means

pub returns-in-Ttuple-clause-means : goal.returns-in-Ttuple-clause-means
returns-in-Ttuple-clause-means c =
    IfOk-weaker c.tuple.result _ _ (λ m made names ps over nodes. denoted.tuple_ends c.args.at.now c.tuple.new.self names ps (node_view c.args.node.now) (numbers c.args.types.now) m.0 (tuple_row c.args.node.now c.in-Ttuple.is) made c.tuple.ensures.rest) c.tuple.ensures.made

pub returns-in-Tarrow-clause-means : goal.returns-in-Tarrow-clause-means
returns-in-Tarrow-clause-means c =
    IfOk-weaker c.arrow_between.result _ _ (λ m made names ps over nodes. denoted.arrow_ends c.args.at.now c.arrow_between.new.at names ps (node_view c.args.node.now) (numbers c.args.types.now) m.0 (arrow_row c.args.node.now c.in-Tarrow.is) made) c.arrow_between.ensures.arrow

pub returns-in_default-clause-means : goal.returns-in_default-clause-means
returns-in_default-clause-means c =
    IfOk-weaker c.unresolved.result _ _ (λ m unknown names ps over nodes.
    denoted.other_ends c.args.at.now c.unresolved.new.at names ps c.args.node.now (numbers c.args.types.now) m.0 c.in_default.not-Tvar c.in_default.not-Tparen c.in_default.not-Ttuple c.in_default.not-Tarrow (unknown names over)) c.unresolved.ensures.unknown

pub returns-in-Tarrow-clause-untyped : goal.returns-in-Tarrow-clause-untyped
returns-in-Tarrow-clause-untyped c = c.arrow_between.ensures.untyped

pub returns-in-Tparen-clause-untyped : goal.returns-in-Tparen-clause-untyped
returns-in-Tparen-clause-untyped c = c.in_parentheses.ensures.untyped

pub returns-in-Ttuple-clause-untyped : goal.returns-in-Ttuple-clause-untyped
returns-in-Ttuple-clause-untyped c = ok_any c.tuple.result _ (store_untyped c.args.at.now c.tuple.new.self c.tuple.ensures.rest)

pub returns-in-Tvar-clause-untyped : goal.returns-in-Tvar-clause-untyped
returns-in-Tvar-clause-untyped c = c.variable.ensures.untyped

pub returns-in_default-clause-untyped : goal.returns-in_default-clause-untyped
returns-in_default-clause-untyped c = ok_any c.unresolved.result _ (store_untyped c.args.at.now c.unresolved.new.at c.unresolved.ensures.rest)
