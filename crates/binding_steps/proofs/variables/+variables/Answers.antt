use Rattle.std.proofs.Common.{◌∙◌, ◌+◌, ◌<◌, ◌||◌, map, length, drop, sym, ap, arith}
use Rattle.tree_model.specs.Trees.{part_yield, forest_yield}
use Rattle.syntax_tree.specs.View.{child_view, forest_of, part_view}
use Rattle.typing_model.specs.Records.{is_among}
use Rattle.typing_model.specs.Items.{variables_written}
use Rattle.binding_steps.specs.Variables.{has}
use Rattle.operand_laws.proofs.Variables.{children_left}
use Rattle.binding_steps.proofs.VariableLaws.{names_joined}
use Rattle.binding_steps.proofs.variables.+variables.Goals as goal

pub add_node-loop-child-preserved : goal.add_node-loop-child-preserved
add_node-loop-child-preserved t c = λ q.
    let cs = c.deref-child-items.result.now in
    let i = c.loop-child.child-index in
    let x = c.child-item.result in
    let lt : i < length cs = let n = c.loop-child-test.true in omega arith in
    names_joined (has c.loop-child.names q) (has c.add_part.new.names q) q (part_yield (part_view x.part)) (forest_yield (forest_of (map child_view (drop (i + 1) cs)))) (c.in_ok-add_part.ensures q)
    ∙ ap (λ ts. has c.loop-child.names q || is_among q (variables_written ts)) (sym (children_left cs i x lt c.child-item.is))
    ∙ c.loop-child.invariant q
