-- The rows of nodes that are items, by those of the code.
use Rattle.std.proofs.Common.{◌≡◌, ◌∙◌, refl, ap}
use Rattle.tree_model.specs.Rows.{let_row, exception_row, break_row}
use Rattle.syntax_tree.specs.declared.rows.RowName.{RowName}
use Rattle.syntax_tree.specs.declared.rows.RowName.TheVariants as name
use Rattle.syntax_tree.specs.declared.tree.Node.{Node, out-Node}
use Rattle.syntax_tree.specs.Names as names
use Rattle.syntax_tree.specs.View.{node_view}
use Rattle.operand_laws.specs.Formed.{row_of}
pub use Rattle.signature_typing.proofs.NodeRows.{row_there, only_exception}

-- a row of the code by that of the definitions
pub only_let : (r : RowName) → names.row_of r ≡ let_row → r ≡ name.Let
unfolding names.row_of
only_let name.Let e = refl
only_let _ e = absurd (cc)

pub only_break : (r : RowName) → names.row_of r ≡ break_row → r ≡ name.Break
unfolding names.row_of
only_break name.Break e = refl
only_break _ e = absurd (cc)

pub let_there : (nd : Node) → (out-Node nd).row ≡ name.Let → row_of (node_view nd) ≡ let_row
unfolding names.row_of
let_there nd e = row_there nd ∙ ap names.row_of e

pub break_there : (nd : Node) → (out-Node nd).row ≡ name.Break → row_of (node_view nd) ≡ break_row
unfolding names.row_of
break_there nd e = row_there nd ∙ ap names.row_of e

pub exception_there : (nd : Node) → (out-Node nd).row ≡ name.Exception → row_of (node_view nd) ≡ exception_row
unfolding names.row_of
exception_there nd e = row_there nd ∙ ap names.row_of e
