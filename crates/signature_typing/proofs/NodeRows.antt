-- The rows of nodes that are items of a signature, by those of the code.
use Rattle.std.proofs.Common.{◌≡◌, ◌∙◌, refl, sym, ap}
use Rattle.tree_model.specs.Rows.{val_row, exception_row, type_row, gmodule_row, ysig_row}
use Rattle.syntax_tree.specs.declared.rows.RowName.{RowName}
use Rattle.syntax_tree.specs.declared.rows.RowName.TheVariants as name
use Rattle.syntax_tree.specs.declared.tree.Node.{Node, out-Node}
use Rattle.syntax_tree.specs.Names as names
use Rattle.syntax_tree.specs.View.{node_view}
use Rattle.syntax_tree.proofs.Views.{node_view_parts}
use Rattle.operand_laws.specs.Formed.{row_of}

-- the row of a node, by that of the code
pub row_there : (nd : Node) → row_of (node_view nd) ≡ names.row_of (out-Node nd).row
row_there nd = ap row_of (node_view_parts nd)

pub only_exception : (r : RowName) → names.row_of r ≡ exception_row → r ≡ name.Exception
unfolding names.row_of
only_exception name.Exception e = refl
only_exception _ e = absurd (cc)

pub only_val : (r : RowName) → names.row_of r ≡ val_row → r ≡ name.Val
unfolding names.row_of
only_val name.Val e = refl
only_val _ e = absurd (cc)

pub only_type : (r : RowName) → names.row_of r ≡ type_row → r ≡ name.TypeRow
unfolding names.row_of
only_type name.TypeRow e = refl
only_type _ e = absurd (cc)

pub only_module : (r : RowName) → names.row_of r ≡ gmodule_row → r ≡ name.Gmodule
unfolding names.row_of
only_module name.Gmodule e = refl
only_module _ e = absurd (cc)

pub only_signature : (r : RowName) → names.row_of r ≡ ysig_row → r ≡ name.Ysig
unfolding names.row_of
only_signature name.Ysig e = refl
only_signature _ e = absurd (cc)

-- no row is two
pub not_of : (r q p : RowName) → r ≡ q → (q ≡ p → ⊥) → r ≡ p → ⊥
not_of r q p e other f = other (sym e ∙ f)
