use Rattle.std.proofs.Common.{◌≡◌, ◌∙◌, option_map, sym, ap}
use Rattle.std.proofs.lemmas.Result.{IfOk-weaker}
use Rattle.syntax_tree.specs.Names.{row_of}
use Rattle.syntax_tree.specs.View.{node_view}
use Rattle.syntax_tree.specs.declared.tree.Node.{out-Node}
use Rattle.row_parts.specs.Numbered.{operand_view, part_of}
use Rattle.decl_groups.specs.Written.{own_by, right_row, right_part, right_of}
use Rattle.decl_groups.proofs.Rows.{other_right, told_here, right_here}
use Rattle.decl_groups.proofs.groups.right_side.Goals as goal

pub returns-in-Alias : goal.returns-in-Alias
unfolding row_of
returns-in-Alias c =
    let n = c.in-Some.part.number in
    let nd = c.in-Some-node.node.now in
    let e : right_of (option_map operand_view c.args.operand) ≡ right_row (row_of (out-Node nd).row) n (node_view nd) = ap (λ o. right_of (option_map operand_view o)) c.in-Some.is ∙ ap (λ m. right_part n (part_of m c.in-Some.part.span)) c.in-Some-node.is ∙ right_here nd n in
    IfOk-weaker c.alias.result _ _ (λ r is. is ∙ sym (e ∙ ap (λ q. right_row (row_of q) n (node_view nd)) c.in-Alias.is)) c.alias.ensures

pub returns-in_default-row : goal.returns-in_default-row
returns-in_default-row c =
    let n = c.in-Some.part.number in
    let nd = c.in-Some-node.node.now in
    let e : right_of (option_map operand_view c.args.operand) ≡ right_row (row_of (out-Node nd).row) n (node_view nd) = ap (λ o. right_of (option_map operand_view o)) c.in-Some.is ∙ ap (λ m. right_part n (part_of m c.in-Some.part.span)) c.in-Some-node.is ∙ right_here nd n in
    IfOk-weaker c.own.result _ _ (λ r is. is ∙ ap (own_by n) (told_here nd n) ∙ sym (e ∙ other_right (out-Node nd).row n (node_view nd) c.in_default-row.not-Alias)) c.own.ensures
