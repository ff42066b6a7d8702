use Rattle.std.proofs.Common.{◌∙◌, Some, sym, ap}
use Rattle.syntax_tree.specs.Names.{row_of}
use Rattle.syntax_tree.specs.View.{node_view}
use Rattle.syntax_tree.specs.declared.tree.Node.{out-Node}
use Rattle.decl_groups.specs.Written.{constructors, labels, told_of}
use Rattle.decl_groups.proofs.Rows.{other_told, told_here}
use Rattle.decl_groups.proofs.groups.told_by.Goals as goal

pub returns-in_ok-constructors-in-Variant : goal.returns-in_ok-constructors-in-Variant
unfolding row_of
returns-in_ok-constructors-in-Variant c = sym (told_here c.args.node.now c.args.number ∙ ap (λ r. told_of (row_of r) c.args.number (node_view c.args.node.now)) c.in-Variant.is ∙ ap (λ ks. Some (constructors ks)) (sym c.in_ok-constructors-in-Variant.ensures))

pub returns-in_ok-labels-in-Record : goal.returns-in_ok-labels-in-Record
unfolding row_of
returns-in_ok-labels-in-Record c = sym (told_here c.args.node.now c.args.number ∙ ap (λ r. told_of (row_of r) c.args.number (node_view c.args.node.now)) c.in-Record.is ∙ ap (λ ks. Some (labels ks)) (sym c.in_ok-labels-in-Record.ensures))

pub returns-in_default : goal.returns-in_default
returns-in_default c = sym (told_here c.args.node.now c.args.number ∙ other_told (out-Node c.args.node.now).row c.args.number (node_view c.args.node.now) c.in_default.not-Variant c.in_default.not-Record)
