-- The nodes of bindings whose patterns are typed.
use Rattle.std.proofs.Common.{◌≡◌, ◌∙◌, ◌++◌, List, [], ◌∷◌, map, Some, None, sym, ap, append-nil}
use denote.Ref.{Bor}
use Rattle.syntax_tree.specs.View.{node_view}
use Rattle.syntax_tree.specs.declared.tree.Node.{Node}
use Rattle.row_parts.specs.declared.slots.Operand.{Operand}
use Rattle.row_parts.specs.Numbered.{operand_view, part_of}
use Rattle.binding_rows.specs.Carried.{NumberedNode, node_there}
use Rattle.binding_steps.specs.declared.groups.Binding.{Binding}
use Rattle.binding_steps.specs.declared.groups.Opened.{Opened}
use Rattle.binding_steps.specs.Bindings.{node_of}
use Rattle.binding_steps.proofs.ClosingLaws.{mapped_more}

-- the node of an opened binding more
pub node_more : (o : Operand) (nd : Bor Node) (x : Binding) (one : Opened) (old new : List Opened) → o.node ≡ Some nd → x.number ≡ o.number → x.node ≡ nd → one.binding ≡ x → new ≡ old ++ one ∷ [] →
    map node_of new ≡ map node_of old ++ node_there (operand_view o).number (operand_view o).part
node_more o nd x one old new there number tree same grown =
    mapped_more node_of old new one grown ∙
    ap (λ (y : Binding). map node_of old ++ (let z : NumberedNode = record { number = y.number; tree = node_view y.node.now } in z) ∷ []) same ∙
    (λ i. map node_of old ++ (let z : NumberedNode = record { number = number i; tree = node_view (tree i).now } in z) ∷ []) ∙
    ap (λ m. map node_of old ++ node_there o.number (part_of m o.span)) (sym there)

-- a missing one has none
pub node_lost : (o : Operand) (old : List Opened) → o.node ≡ None → map node_of old ≡ map node_of old ++ node_there (operand_view o).number (operand_view o).part
node_lost o old none = sym (append-nil (map node_of old)) ∙ ap (λ m. map node_of old ++ node_there o.number (part_of m o.span)) (sym none)
