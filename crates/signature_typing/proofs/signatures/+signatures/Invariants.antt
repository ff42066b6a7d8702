use Rattle.std.proofs.Common.{◌≡◌, ◌+◌, ◌*◌, [], drop, map}
use Rattle.row_parts.specs.Numbered.{operand_view}
use Rattle.typing_state.specs.Goes.{Goes}
use Rattle.signature_typing.specs.Specifications.{SpecifiesItemsFirst}
use Rattle.signature_typing.specs.ValueSignatures.{GivesAddedFirst}
use Rattle.signature_typing.proofs.signatures.+signatures.Given as goal

abbrev pub decreases-type_specification : goal.decreases-type_specification
decreases-type_specification l = 10 * l.depth.0 + 8

abbrev pub decreases-type_specifications : goal.decreases-type_specifications
decreases-type_specifications l = 10 * l.depth.0 + 9

abbrev pub invariant-type_specifications-loop-item : goal.invariant-type_specifications-loop-item
invariant-type_specifications-loop-item l = record {
  goes : Goes l.fn.at l.at;
  gives : SpecifiesItemsFirst l.fn.at l.at l.env l.scene (map operand_view l.items) (map operand_view (drop l.item-index l.items));
  adds : GivesAddedFirst l.fn.at l.at l.env l.scene (map operand_view l.items) (map operand_view (drop l.item-index l.items));
}

abbrev pub decreases-read_module_type : goal.decreases-read_module_type
decreases-read_module_type l = 10 * l.depth.0 + 1

abbrev pub decreases-type_parameters : goal.decreases-type_parameters
decreases-type_parameters l = 10 * l.depth.0 + 2

abbrev pub invariant-type_parameters-loop-place : goal.invariant-type_parameters-loop-place
invariant-type_parameters-loop-place l = record {
  goes : Goes l.fn.at l.at;
  none : l.types ≡ [] → (l.taken.items ≡ []) × (l.at ≡ l.fn.at);
}

abbrev pub decreases-type_named : goal.decreases-type_named
decreases-type_named l = 10 * l.depth.0 + 3

abbrev pub decreases-type_module_specification : goal.decreases-type_module_specification
decreases-type_module_specification l = 10 * l.depth.0 + 6

abbrev pub decreases-type_specified : goal.decreases-type_specified
decreases-type_specified l = 10 * l.depth.0 + 5

abbrev pub decreases-type_module_type_item : goal.decreases-type_module_type_item
decreases-type_module_type_item l = 10 * l.depth.0 + 6
