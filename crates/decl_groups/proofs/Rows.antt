-- What a node tells by its row.
use Rattle.std.proofs.Common.{◌≡◌, ◌∙◌, ℕ, None, refl, sym, ap}
use Rattle.tree_model.specs.Trees.{Tree, inner}
use Rattle.syntax_tree.specs.Names.{row_of}
use Rattle.syntax_tree.specs.View.{node_view}
use Rattle.syntax_tree.specs.declared.rows.RowName.{RowName}
use Rattle.syntax_tree.specs.declared.rows.RowName.TheVariants as name
use Rattle.syntax_tree.specs.declared.tree.Node.{Node, out-Node}
use Rattle.syntax_tree.proofs.Views.{node_view_parts}
use Rattle.decl_groups.specs.Written.{told_of, told_at, own_by, right_row, right_part}

-- a row of another kind tells nothing
pub other_told : (r : RowName) (n : ℕ) (t : Tree) → (r ≡ name.Variant → ⊥) → (r ≡ name.Record → ⊥) → told_of (row_of r) n t ≡ None
unfolding row_of
other_told name.Variant n t h k = absurd (h refl)
other_told name.Record n t h k = absurd (k refl)
other_told _ n t h k = refl

-- a row that is no alias is a type of its own
pub other_right : (r : RowName) (n : ℕ) (t : Tree) → (r ≡ name.Alias → ⊥) → right_row (row_of r) n t ≡ own_by n (told_of (row_of r) n t)
unfolding row_of
other_right name.Alias n t h = absurd (h refl)
other_right _ n t h = refl

-- what a node of the code tells
pub told_here : (nd : Node) (n : ℕ) → told_at n (node_view nd) ≡ told_of (row_of (out-Node nd).row) n (node_view nd)
told_here nd n = ap (told_at n) (node_view_parts nd) ∙ sym (ap (told_of (row_of (out-Node nd).row) n) (node_view_parts nd))

-- and its right side
pub right_here : (nd : Node) (n : ℕ) → right_part n (inner (node_view nd)) ≡ right_row (row_of (out-Node nd).row) n (node_view nd)
right_here nd n = ap (λ t. right_part n (inner t)) (node_view_parts nd) ∙ sym (ap (right_row (row_of (out-Node nd).row) n) (node_view_parts nd))
