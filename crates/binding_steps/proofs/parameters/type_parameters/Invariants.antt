use Rattle.std.proofs.Common.{map, drop}
use Rattle.std.specs.Prelude.{All}
use Rattle.row_parts.specs.Numbered.{operand_view}
use Rattle.typing_state.specs.Goes.{Goes}
use Rattle.type_nodes.specs.Views.{numbers}
use Rattle.pattern_rows.specs.CarriedPatterns.{IsCarriedPattern}
use Rattle.pattern_rows.specs.Contracts.{patterns_of}
use Rattle.binding_rows.specs.Parameters.{ParametersSoFar}
use Rattle.binding_steps.proofs.parameters.type_parameters.Given as goal

abbrev pub invariant-loop-parameter : goal.invariant-loop-parameter
invariant-loop-parameter l = record {
  goes : Goes l.fn.at l.at;
  carries : All IsCarriedPattern (map operand_view l.parameters) → ParametersSoFar l.fn.at l.at l.env l.inner (patterns_of l.fn.at.item (map operand_view l.parameters)) (patterns_of l.fn.at.item (map operand_view (drop l.parameter-index l.parameters))) (numbers l.types.items);
}
