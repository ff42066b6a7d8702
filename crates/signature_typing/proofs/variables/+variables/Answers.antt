use Rattle.std.proofs.Common.{◌∙◌, ◌+◌, ◌<◌, ◌++◌, map, length, drop, refl, sym, ap, arith}
use Rattle.tree_model.specs.Trees.{part_yield, forest_yield}
use Rattle.syntax_tree.specs.View.{child_view, forest_of, part_view}
use Rattle.typing_model.specs.Items.{variables_written}
use Rattle.typing_model.specs.Modules.{once_each}
use Rattle.decl_typing.specs.Parameters.{token_names}
use Rattle.operand_laws.proofs.Variables.{once_then, children_left}
use Rattle.signature_typing.proofs.variables.+variables.Goals as goal

pub add_variables-loop-child-preserved : goal.add_variables-loop-child-preserved
add_variables-loop-child-preserved t c =
    let cs = c.deref-child-items.result.now in
    let i = c.loop-child.child-index in
    let x = c.child-item.result in
    let before = token_names c.loop-child.found.items in
    let after = token_names c.add_part.new.found.items in
    let rest = forest_yield (forest_of (map child_view (drop (i + 1) cs))) in
    let lt : i < length cs = let n = c.loop-child-test.true in omega arith in
    once_then before after (after ++ once_each after (variables_written rest)) (part_yield (part_view x.part)) rest c.in_ok-add_part.ensures refl
    ∙ ap (λ ts. before ++ once_each before (variables_written ts)) (sym (children_left cs i x lt c.child-item.is))
    ∙ c.loop-child.invariant
