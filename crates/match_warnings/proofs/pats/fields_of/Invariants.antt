use Rattle.std.proofs.Common.{◌≡◌, ◌++◌, List, map, drop}
use Rattle.syntax_tree.specs.View.{node_view}
use Rattle.env_table.specs.declared.entries.Entry.{Entry}
use Rattle.env_table.specs.Labels.{written_of}
use Rattle.row_parts.specs.Numbered.{operand_view, operands_in}
use Rattle.use_typing.specs.Labels.{label_paths}
use Rattle.match_warnings.specs.Patterns.{are_trees, labels_of, field_view, fields_in}
use Rattle.match_warnings.proofs.pats.fields_of.Given as goal

abbrev pub invariant-loop-part : goal.invariant-loop-part
invariant-loop-part l = record {
  items : map operand_view l.part-items ≡ operands_in l.number (node_view l.node) 1;
  trees : are_trees (map operand_view (drop l.part-index l.part-items)) ≡ are_trees (map operand_view l.part-items);
  paths : map written_of l.paths.items ++ label_paths (labels_of (map operand_view (drop l.part-index l.part-items))) ≡ map written_of l.fn.paths.items ++ label_paths (labels_of (map operand_view l.part-items));
  fields : (env : List Entry) → map (field_view env) l.fields.items ++ fields_in env (map operand_view (drop l.part-index l.part-items)) ≡ fields_in env (map operand_view l.part-items);
}
