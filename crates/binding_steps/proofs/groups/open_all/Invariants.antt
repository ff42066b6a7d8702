use Rattle.std.proofs.Common.{◌≡◌, ◌++◌, map, drop}
use Rattle.row_parts.specs.Numbered.{operand_view}
use Rattle.typing_state.specs.Goes.{Goes}
use Rattle.pattern_typing.specs.Matching.{names_seen}
use Rattle.binding_rows.specs.Carried.{nodes_there}
use Rattle.binding_rows.specs.Operands.{OpensOperandsFirst}
use Rattle.binding_steps.specs.Bindings.{opened_of, node_of}
use Rattle.binding_steps.proofs.groups.open_all.Given as goal

abbrev pub invariant-loop-binding : goal.invariant-loop-binding
invariant-loop-binding l = record {
  goes : Goes l.fn.at l.at;
  carries : OpensOperandsFirst l.fn.at l.at l.env l.bindings (drop l.binding-index l.bindings) (names_seen l.seen.items) (map opened_of l.all.items);
  nodes : map node_of l.all.items ++ nodes_there (map operand_view (drop l.binding-index l.bindings)) ≡ nodes_there (map operand_view l.bindings);
}
