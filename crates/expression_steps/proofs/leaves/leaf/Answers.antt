use Rattle.typing_state.proofs.Going.{goes_refl}
use Rattle.std.proofs.Common.{◌∙◌, sym, ap}
use Rattle.std.specs.Prelude.{option_map}
use Rattle.std.proofs.lemmas.Result.{IfOk-weaker}
use Rattle.syntax_tree.specs.View.{node_view}
use Rattle.row_parts.specs.Numbered.{path_view}
use Rattle.operand_laws.specs.Operands.{number_of}
use Rattle.use_typing.specs.Constants.{is_negated}
use Rattle.value_forms.specs.Heads.{constructor_at}
use Rattle.expression_steps.proofs.ConstructorLaws.{leaf_constructor}
use Rattle.expression_steps.proofs.leaves.leaf.Goals as goal

pub returns-in-Some-clause-carries : goal.returns-in-Some-clause-carries
returns-in-Some-clause-carries c =
    let named = sym (ap (option_map path_view) (sym c.in-Some.is) ∙ c.in_ok-path.ensures ∙ ap (λ o. constructor_at o.part) c.of.ensures) in
    IfOk-weaker c.constructor_alone.result _ _ (λ u h place carried is.
    leaf_constructor c.args.at.now c.constructor_alone.new.at c.args.env.now c.args.at.now.item c.args.number place (node_view c.args.node.now) (is_negated c.args.sign) u.ty.0 (path_view c.in-Some.path) named (h (number_of c.args.at.now.item c.args.number)))
    c.constructor_alone.ensures.carries

pub returns-in-None-clause-carries : goal.returns-in-None-clause-carries
returns-in-None-clause-carries c =
    let none = sym (ap (option_map path_view) (sym c.in-None.is) ∙ c.in_ok-path.ensures ∙ ap (λ o. constructor_at o.part) c.of.ensures) in
    IfOk-weaker c.leaf_value.result _ _ (λ u h place carried is. h c.args.number place carried is none) c.leaf_value.ensures.carries

pub returns-in-None-clause-goes : goal.returns-in-None-clause-goes
returns-in-None-clause-goes c = c.leaf_value.ensures.goes

pub returns-in-Some-clause-goes : goal.returns-in-Some-clause-goes
returns-in-Some-clause-goes c = c.constructor_alone.ensures.goes

pub returns-in_err-path-clause-goes : goal.returns-in_err-path-clause-goes
returns-in_err-path-clause-goes c = goes_refl c.args.at.now
