use Rattle.std.proofs.Common.{sym, subst}
use Rattle.syntax_tree.specs.View.{node_view, tok_of}
use Rattle.value_forms.specs.Heads.{row_at}
use Rattle.value_forms.proofs.Nodes.{row_of_node}
use Rattle.expression_steps.specs.Operators.{IsSignOf, IsOperator}
use Rattle.expression_steps.proofs.CarryingLaws.{some_none}
use Rattle.expression_steps.proofs.operators.operator_of.Goals as goal

pub returns-in_ok-operator_by-in-Some-clause-none : goal.returns-in_ok-operator_by-in-Some-clause-none
returns-in_ok-operator_by-in-Some-clause-none c = λ e. absurd (some_none c.in_ok-operator_by-in-Some.field-0 e)

pub returns-in_ok-operator_by-in-Some-clause-some : goal.returns-in_ok-operator_by-in-Some-clause-some
returns-in_ok-operator_by-in-Some-clause-some c =
    let o = c.in_ok-operator_by-in-Some.field-0 in
    let nd = c.args.node.now in
    subst (λ s. IsSignOf (row_at (node_view nd)) s o) c.in-Some.ensures.token (subst (λ r. IsOperator r (tok_of c.in-Some.token.now) o) (sym (row_of_node nd)) c.in_ok-operator_by-in-Some.ensures.operator)

pub returns-in-None-clause-none : goal.returns-in-None-clause-none
returns-in-None-clause-none c = λ e. sym c.in-None.ensures.token
