use Rattle.typing_state.proofs.Going.{goes_refl}
use Rattle.std.proofs.Common.{◌∙◌, sym, subst}
use Rattle.std.proofs.lemmas.Result.{IfOk-weaker}
use Rattle.syntax_tree.specs.View.{node_view}
use Rattle.operand_laws.specs.Operands.{number_of}
use Rattle.typing_model.specs.Expressions.{value_asks}
use Rattle.typing_model.specs.BuiltIns.{constant}
use Rattle.typing_steps.specs.Typing.{TypesOwn, TypesRow, path_as}
use Rattle.use_typing.specs.Constants.{is_negated}
use Rattle.typing_rows.specs.Asked.{under_minus, row_expression}
use Rattle.typing_rows.proofs.Typed.{named_row, path_row, constant_row, hole_any}
use Rattle.value_forms.specs.Heads.{row_at}
use Rattle.value_forms.proofs.Nodes.{rows_same}
use Rattle.expression_steps.specs.Forms.{value_in}
use Rattle.expression_steps.proofs.ConstructorLaws.{no_upper}
use Rattle.expression_steps.proofs.EndingLaws.{any_value, value_tells, leaf_name, leaf_path, leaf_constant, leaf_hole}
use Rattle.expression_steps.proofs.leaves.leaf_value.Goals as goal

pub returns-in_ok-path-in-Name-clause-carries : goal.returns-in_ok-path-in-Name-clause-carries
returns-in_ok-path-in-Name-clause-carries c =
    let nd = c.args.node.now in
    let i = c.args.at.now.item in
    IfOk-weaker c.value.result _ _ (λ u h number place carried is none.
    named_row c.args.at.now c.value.new.at c.args.env.now i number place (node_view nd) (is_negated c.args.sign) u.ty.0 (leaf_name nd c.in-Name.is)
    (subst (λ p. TypesOwn c.args.at.now c.value.new.at c.args.env.now (λ x t. value_asks x (number_of i number) 0 (path_as p) t) u.ty.0) c.in_ok-path-in-Name.ensures (h (number_of i number) 0))) c.value.ensures.carries

pub returns-in_ok-path-in-Epath-clause-carries : goal.returns-in_ok-path-in-Epath-clause-carries
returns-in_ok-path-in-Epath-clause-carries c =
    let nd = c.args.node.now in
    let i = c.args.at.now.item in
    IfOk-weaker c.value-in-Epath.result _ _ (λ u h number place carried is none.
    path_row c.args.at.now c.value-in-Epath.new.at c.args.env.now i number place (node_view nd) (is_negated c.args.sign) u.ty.0 (rows_same (node_view nd) ∙ leaf_path nd c.in-Epath.is) (no_upper (node_view nd) (leaf_path nd c.in-Epath.is) none)
    (subst (λ p. TypesOwn c.args.at.now c.value-in-Epath.new.at c.args.env.now (λ x t. value_asks x (number_of i number) 0 (path_as p) t) u.ty.0) c.in_ok-path-in-Epath.ensures (h (number_of i number) 0))) c.value-in-Epath.ensures.carries

pub returns-in_ok-ty-in-Econst-clause-carries : goal.returns-in_ok-ty-in-Econst-clause-carries
returns-in_ok-ty-in-Econst-clause-carries c = λ number place carried is none.
    let nd = c.args.node.now in
    let i = c.args.at.now.item in
    let negated = is_negated c.args.sign in
    subst (λ x. TypesRow c.args.at.now c.constant.new.at c.args.env.now (λ k. (under_minus negated (row_expression i number place (node_view nd))).typed k) (number_of i number) x.0) (sym c.unnamed.ensures.ty)
    (constant_row c.args.at.now c.constant.new.at c.args.env.now i number place (node_view nd) negated c.in_ok-ty-in-Econst.ty.0 (leaf_constant nd c.in-Econst.is)
    (subst (λ o. TypesRow c.args.at.now c.constant.new.at c.args.env.now (constant negated (number_of i number) o) (number_of i number) c.in_ok-ty-in-Econst.ty.0) c.token.ensures (c.in_ok-ty-in-Econst.ensures.carries c.args.env.now (number_of i number))))

pub returns-in_default : goal.returns-in_default
returns-in_default c = record {
  carries =
      let nd = c.args.node.now in
      IfOk-weaker c.any_type.result _ _ (λ u h number place carried is none.
      hole_any c.args.at.now c.any_type.new.at c.args.env.now c.args.at.now.item number place (node_view nd) (is_negated c.args.sign) u.ty.0 (leaf_hole nd number place carried is none c.in_default.not-Name c.in_default.not-Epath c.in_default.not-Econst) h) c.any_type.ensures.carries;
  tells = value_tells c.any_type.result (value_in (row_at (node_view c.args.node.now)) (node_view c.args.node.now)) (is_negated c.args.sign) c.args.at.now c.any_type.new.at c.args.env.now (any_value c.args.node.now c.in_default.not-Name c.in_default.not-Epath c.in_default.not-Econst) c.any_type.ensures.silent;
  goes = c.any_type.ensures.goes;
}

pub returns-in_err-path-in-Epath-clause-goes : goal.returns-in_err-path-in-Epath-clause-goes
returns-in_err-path-in-Epath-clause-goes c = goes_refl c.args.at.now

pub returns-in_err-path-in-Name-clause-goes : goal.returns-in_err-path-in-Name-clause-goes
returns-in_err-path-in-Name-clause-goes c = goes_refl c.args.at.now

pub returns-in_err-ty-in-Econst-clause-goes : goal.returns-in_err-ty-in-Econst-clause-goes
returns-in_err-ty-in-Econst-clause-goes c = c.constant.ensures.goes

pub returns-in_ok-path-in-Epath-clause-goes : goal.returns-in_ok-path-in-Epath-clause-goes
returns-in_ok-path-in-Epath-clause-goes c = c.value-in-Epath.ensures.goes

pub returns-in_ok-path-in-Name-clause-goes : goal.returns-in_ok-path-in-Name-clause-goes
returns-in_ok-path-in-Name-clause-goes c = c.value.ensures.goes

pub returns-in_ok-ty-in-Econst-clause-goes : goal.returns-in_ok-ty-in-Econst-clause-goes
returns-in_ok-ty-in-Econst-clause-goes c = c.constant.ensures.goes
