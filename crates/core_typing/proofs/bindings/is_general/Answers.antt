use Rattle.std.proofs.Common.{◌∙◌, sym}
use Rattle.std.proofs.lemmas.Result.{IfOk-weaker}
use Rattle.syntax_tree.specs.View.{node_view}
use Rattle.row_parts.specs.Numbered.{operand_view}
use Rattle.binding_rows.proofs.Verdicts.{judged_with, judged_without}
use Rattle.core_typing.proofs.bindings.is_general.Goals as goal

pub returns-then-has_parameters : goal.returns-then-has_parameters
returns-then-has_parameters c = record { general = judged_with c.args.env.now c.args.binding.number (node_view c.args.binding.node.now) (sym c.has_parameters.ensures ∙ c.if-has_parameters.true) }

pub returns : goal.returns
returns c = record {
  general = IfOk-weaker c.is_value.result _ _ (λ found h.
      judged_without c.args.env.now c.args.binding.number (node_view c.args.binding.node.now) (operand_view c.body_in.result) found (sym c.has_parameters.ensures ∙ c.if-has_parameters.false) c.body_in.ensures h) c.is_value.ensures.value;
}
