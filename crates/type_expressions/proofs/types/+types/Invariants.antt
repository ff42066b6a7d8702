use Rattle.std.proofs.Common.{◌+◌, ◌*◌, map, drop}
use Rattle.std.specs.Prelude.{ℕ, All, List}
use Rattle.signature_model.specs.Declarations.{Name}
use Rattle.typing_rows.specs.DeclaredContracts.{SettlesFirst}
use Rattle.declared_rows.specs.Contracts.{DenotesFirst}
use Rattle.type_nodes.specs.Views.{numbers}
use Rattle.row_parts.specs.Numbered.{operand_view}
use Rattle.typing_state.specs.Goes.{Goes}
use Rattle.typing_rows.specs.TypeContracts.{ReadsFirst}
use Rattle.typing_rows.specs.Rows.{types_read}
use Rattle.typing_rows.specs.Operands.{IsTypeOperand}
use Rattle.typing_rows.specs.Treating.{TreatsFirst}
use Rattle.type_expressions.specs.Untyped.{Untyped}
use Rattle.type_expressions.specs.Items.{HasNodes, IsOfItem, IsOver}
use Rattle.type_expressions.proofs.types.+types.Given as goal

abbrev pub decreases-read_type : goal.decreases-read_type
decreases-read_type l = 5 * l.depth.0 + 4

abbrev pub decreases-read_row : goal.decreases-read_row
decreases-read_row l = 5 * l.depth.0 + 3

abbrev pub decreases-read_parts : goal.decreases-read_parts
decreases-read_parts l = 5 * l.depth.0 + 2

abbrev pub decreases-read_given : goal.decreases-read_given
decreases-read_given l = 5 * l.depth.0 + 1

abbrev pub decreases-read_each : goal.decreases-read_each
decreases-read_each l = 5 * l.depth.0

abbrev pub invariant-read_each-loop-part : goal.invariant-read_each-loop-part
invariant-read_each-loop-part l = record {
  goes : Goes l.fn.at l.at;
  untyped : Untyped l.fn.at l.at;
  treats : All IsTypeOperand (map operand_view l.parts) → TreatsFirst l.fn.at l.at l.env (types_read l.fn.at.item (map operand_view l.parts)) (types_read l.fn.at.item (map operand_view (drop l.part-index l.parts)));
  reads : IsOfItem l.variables → All IsTypeOperand (map operand_view l.parts) →
      ReadsFirst l.fn.at l.at l.env (types_read l.fn.at.item (map operand_view l.parts)) (types_read l.fn.at.item (map operand_view (drop l.part-index l.parts))) (numbers l.types.items);
  settles : (names : List Name) → IsOver l.variables names → All IsTypeOperand (map operand_view l.parts) →
      SettlesFirst l.fn.at l.at l.env names (types_read l.fn.at.item (map operand_view l.parts)) (types_read l.fn.at.item (map operand_view (drop l.part-index l.parts))) (numbers l.types.items);
  means : (names : List Name) (ps : List ℕ) → IsOver l.variables names → HasNodes l.variables ps → All IsTypeOperand (map operand_view l.parts) →
      DenotesFirst l.fn.at l.at l.env names ps (types_read l.fn.at.item (map operand_view l.parts)) (types_read l.fn.at.item (map operand_view (drop l.part-index l.parts))) (numbers l.types.items);
}
