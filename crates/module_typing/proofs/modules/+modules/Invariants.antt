use Rattle.std.proofs.Common.{◌+◌, ◌*◌, drop, map}
use Rattle.row_parts.specs.Numbered.{operand_view}
use Rattle.typing_state.specs.Goes.{Goes}
use Rattle.module_typing.specs.Items.{GivesItemsFirst}
use Rattle.module_typing.proofs.modules.+modules.Given as goal

abbrev pub decreases-type_items : goal.decreases-type_items
decreases-type_items l = 10 * l.depth.0 + 9

abbrev pub invariant-type_items-loop-item : goal.invariant-type_items-loop-item
invariant-type_items-loop-item l = record {
  goes : Goes l.fn.at l.at;
  gives : GivesItemsFirst l.fn.at l.at l.env l.scene (map operand_view l.items) (map operand_view (drop l.item-index l.items));
}

abbrev pub decreases-type_item : goal.decreases-type_item
decreases-type_item l = 10 * l.depth.0 + 7

abbrev pub decreases-type_module : goal.decreases-type_module
decreases-type_module l = 10 * l.depth.0 + 1

abbrev pub decreases-type_sealed : goal.decreases-type_sealed
decreases-type_sealed l = 10 * l.depth.0 + 3

abbrev pub decreases-type_application : goal.decreases-type_application
decreases-type_application l = 10 * l.depth.0 + 4

abbrev pub decreases-type_head : goal.decreases-type_head
decreases-type_head l = 10 * l.depth.0 + 2

abbrev pub decreases-type_functor : goal.decreases-type_functor
decreases-type_functor l = 10 * l.depth.0 + 4

abbrev pub decreases-type_module_item : goal.decreases-type_module_item
decreases-type_module_item l = 10 * l.depth.0 + 6

abbrev pub decreases-type_defined : goal.decreases-type_defined
decreases-type_defined l = 10 * l.depth.0 + 5
