use Rattle.std.proofs.Common.{map, drop}
use Rattle.row_parts.specs.Numbered.{operand_view}
use Rattle.typing_state.specs.Goes.{Goes}
use Rattle.type_nodes.specs.Views.{numbers}
use Rattle.typing_model.specs.Patterns.{behind_first}
use Rattle.typing_rows.specs.Asked.{expressions_of}
use Rattle.typing_rows.specs.Contracts.{AsksLaterFirst}
use Rattle.expression_steps.proofs.ends.later_have.Given as goal

abbrev pub invariant-loop-place : goal.invariant-loop-place
invariant-loop-place l = record {
  goes : Goes l.fn.at l.at;
  carries : AsksLaterFirst l.fn.at l.at l.env (expressions_of l.fn.at.item (map operand_view l.parts)) (numbers l.types) l.wanted.0 (behind_first (expressions_of l.fn.at.item (map operand_view l.parts))) (drop l.place (expressions_of l.fn.at.item (map operand_view l.parts)));
}
