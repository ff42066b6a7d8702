use Rattle.std.proofs.Common.{map, Some, ap, subst}
use Rattle.std.proofs.lemmas.Result.{IfOk-weaker}
use Rattle.syntax_tree.specs.View.{tok_of}
use Rattle.typing_model.specs.Expressions.{value_asks}
use Rattle.typing_steps.specs.Typing.{TypesOwn}
use Rattle.expression_steps.proofs.operators.operator_value.Goals as goal

pub returns-clause-carries : goal.returns-clause-carries
returns-clause-carries c =
    IfOk-weaker c.value.result _ _ (λ u h n k.
    subst (λ q. TypesOwn c.args.at.now c.value.new.at c.args.env.now (λ x t. value_asks x n k (record { qualifiers = q; last = Some (tok_of c.args.operator.now) }) t) u.ty.0) (ap (map (λ t. tok_of t.now)) c.new.ensures.items) (h n k)) c.value.ensures.carries

pub returns-clause-goes : goal.returns-clause-goes
returns-clause-goes c = c.value.ensures.goes
