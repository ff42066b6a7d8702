use Rattle.std.proofs.Common.{sym, subst}
use Rattle.std.proofs.lemmas.Result.{IfOk-weaker}
use Rattle.syntax_tree.specs.View.{node_view}
use Rattle.type_nodes.specs.Views.{numbers}
use Rattle.typing_steps.specs.Typing.{path_as}
use Rattle.typing_rows.specs.Operands.{EndsName, EndsRow}
use Rattle.typing_rows.proofs.Ended.{con_ends, app_ends, plain_ends}
use Rattle.type_expressions.proofs.Carrying.{con_row, app_row}
use Rattle.typing_rows.specs.DeclaredOperands.{SettlesName}
use Rattle.typing_rows.proofs.DeclaredEnded as settled
use Rattle.declared_rows.specs.Operands.{DenotesName, DenotesEnds}
use Rattle.declared_rows.proofs.Ended as denoted
use Rattle.type_expressions.proofs.types.formed.Goals as goal

pub returns-in_ok-path-in-Tcon-clause-carries : goal.returns-in_ok-path-in-Tcon-clause-carries
returns-in_ok-path-in-Tcon-clause-carries c =
    IfOk-weaker c.constructed.result _ _ (λ r ends item.
    con_ends c.args.at.now c.constructed.new.at c.args.env.now (node_view c.args.node.now) (numbers c.args.types.now) r.ty.0 (con_row c.args.node.now c.in-Tcon.is)
    (subst (λ p. EndsName c.args.at.now c.constructed.new.at c.args.env.now (path_as p) (numbers c.args.types.now) r.ty.0) c.in_ok-path-in-Tcon.ensures (ends item))) c.constructed.ensures.carries

pub returns-in_ok-path-in-Tapp-clause-carries : goal.returns-in_ok-path-in-Tapp-clause-carries
returns-in_ok-path-in-Tapp-clause-carries c =
    IfOk-weaker c.constructed-in-Tapp.result _ _ (λ r ends item.
    app_ends c.args.at.now c.constructed-in-Tapp.new.at c.args.env.now (node_view c.args.node.now) (numbers c.args.types.now) r.ty.0 (app_row c.args.node.now c.in-Tapp.is)
    (subst (λ p. EndsName c.args.at.now c.constructed-in-Tapp.new.at c.args.env.now (path_as p) (numbers c.args.types.now) r.ty.0) c.in_ok-path-in-Tapp.ensures (ends item))) c.constructed-in-Tapp.ensures.carries

pub returns-in_ok-ty-in_default-clause-carries : goal.returns-in_ok-ty-in_default-clause-carries
returns-in_ok-ty-in_default-clause-carries c = λ item.
    subst (λ x. EndsRow c.args.at.now c.composed.new.at c.args.env.now (node_view c.args.node.now) (numbers c.args.types.now) x.0) (sym c.unnamed.ensures)
    (plain_ends c.args.at.now c.composed.new.at c.args.env.now c.args.node.now (numbers c.args.types.now) c.in_ok-ty-in_default.ty.0 c.in_default.not-Tcon c.in_default.not-Tapp (c.in_ok-ty-in_default.ensures.carries item))

pub returns-in_ok-path-in-Tcon-clause-settles : goal.returns-in_ok-path-in-Tcon-clause-settles
returns-in_ok-path-in-Tcon-clause-settles c =
    IfOk-weaker c.constructed.result _ _ (λ r ends names over.
    settled.con_ends c.args.at.now c.constructed.new.at c.args.env.now names (node_view c.args.node.now) (numbers c.args.types.now) (con_row c.args.node.now c.in-Tcon.is)
    (subst (λ p. SettlesName c.args.at.now c.constructed.new.at c.args.env.now names (path_as p) (numbers c.args.types.now)) c.in_ok-path-in-Tcon.ensures (ends names over))) c.constructed.ensures.settles

pub returns-in_ok-path-in-Tapp-clause-settles : goal.returns-in_ok-path-in-Tapp-clause-settles
returns-in_ok-path-in-Tapp-clause-settles c =
    IfOk-weaker c.constructed-in-Tapp.result _ _ (λ r ends names over.
    settled.app_ends c.args.at.now c.constructed-in-Tapp.new.at c.args.env.now names (node_view c.args.node.now) (numbers c.args.types.now) (app_row c.args.node.now c.in-Tapp.is)
    (subst (λ p. SettlesName c.args.at.now c.constructed-in-Tapp.new.at c.args.env.now names (path_as p) (numbers c.args.types.now)) c.in_ok-path-in-Tapp.ensures (ends names over))) c.constructed-in-Tapp.ensures.settles

pub returns-in_ok-ty-in_default-clause-settles : goal.returns-in_ok-ty-in_default-clause-settles
returns-in_ok-ty-in_default-clause-settles c = λ names over.
    settled.plain_ends c.args.at.now c.composed.new.at c.args.env.now names c.args.node.now (numbers c.args.types.now) c.in_default.not-Tcon c.in_default.not-Tapp (c.in_ok-ty-in_default.ensures.settles names over)

pub returns-in_ok-path-in-Tcon-clause-means : goal.returns-in_ok-path-in-Tcon-clause-means
returns-in_ok-path-in-Tcon-clause-means c =
    IfOk-weaker c.constructed.result _ _ (λ r ends names ps over nodes.
    denoted.con_ends c.args.at.now c.constructed.new.at c.args.env.now names ps (node_view c.args.node.now) (numbers c.args.types.now) r.ty.0 (con_row c.args.node.now c.in-Tcon.is)
    (subst (λ p. DenotesName c.args.at.now c.constructed.new.at c.args.env.now names ps (path_as p) (numbers c.args.types.now) r.ty.0) c.in_ok-path-in-Tcon.ensures (ends names ps over nodes))) c.constructed.ensures.means

pub returns-in_ok-path-in-Tapp-clause-means : goal.returns-in_ok-path-in-Tapp-clause-means
returns-in_ok-path-in-Tapp-clause-means c =
    IfOk-weaker c.constructed-in-Tapp.result _ _ (λ r ends names ps over nodes.
    denoted.app_ends c.args.at.now c.constructed-in-Tapp.new.at c.args.env.now names ps (node_view c.args.node.now) (numbers c.args.types.now) r.ty.0 (app_row c.args.node.now c.in-Tapp.is)
    (subst (λ p. DenotesName c.args.at.now c.constructed-in-Tapp.new.at c.args.env.now names ps (path_as p) (numbers c.args.types.now) r.ty.0) c.in_ok-path-in-Tapp.ensures (ends names ps over nodes))) c.constructed-in-Tapp.ensures.means

pub returns-in_ok-ty-in_default-clause-means : goal.returns-in_ok-ty-in_default-clause-means
returns-in_ok-ty-in_default-clause-means c = λ names ps over nodes.
    subst (λ x. DenotesEnds c.args.at.now c.composed.new.at c.args.env.now names ps (node_view c.args.node.now) (numbers c.args.types.now) x.0) (sym c.unnamed.ensures)
    (denoted.plain_ends c.args.at.now c.composed.new.at c.args.env.now names ps c.args.node.now (numbers c.args.types.now) c.in_ok-ty-in_default.ty.0 c.in_default.not-Tcon c.in_default.not-Tapp (c.in_ok-ty-in_default.ensures.means names ps over nodes))

pub returns-in_ok-path-in-Tcon-clause-untyped : goal.returns-in_ok-path-in-Tcon-clause-untyped
returns-in_ok-path-in-Tcon-clause-untyped c = c.constructed.ensures.untyped

pub returns-in_ok-path-in-Tapp-clause-untyped : goal.returns-in_ok-path-in-Tapp-clause-untyped
returns-in_ok-path-in-Tapp-clause-untyped c = c.constructed-in-Tapp.ensures.untyped

pub returns-in_ok-ty-in_default-clause-untyped : goal.returns-in_ok-ty-in_default-clause-untyped
returns-in_ok-ty-in_default-clause-untyped c = c.in_ok-ty-in_default.ensures.untyped
