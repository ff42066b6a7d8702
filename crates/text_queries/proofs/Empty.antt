-- Where there is nothing to look for, nothing is found.
use Rattle.std.proofs.Common.{◌≡◌, ℕ, [], refl, sym, ◌∙◌, subst, None, Option, map}
use Rattle.tree_model.specs.Trees.{Forest, no_parts, part}
use Rattle.query_model.specs.Outlines.{bound_inside, inner_slot}
use Rattle.syntax_tree.specs.Names.{row_of}
use Rattle.syntax_tree.specs.View.{child_view, forest_of, node_view}
use Rattle.syntax_tree.specs.declared.tree.Node.{Node, out-Node}
use Rattle.syntax_tree.proofs.Views.{node_view_parts}
use Rattle.text_queries.specs.Outlines.{inside}

-- nothing is bound in no slot
none_inside : (ps : Forest) → bound_inside None ps ≡ []
none_inside no_parts = refl
none_inside (part slot p ps) = none_inside ps

-- nothing is bound inside a node without an inner slot
pub nothing_inside : (n : Node) (s : Option ℕ) → s ≡ inner_slot (row_of (out-Node n).row) → s ≡ None → inside (node_view n) ≡ []
nothing_inside n s is none = rw (node_view_parts n) (subst (λ o. bound_inside o (forest_of (map child_view (out-Node n).children.items)) ≡ []) (sym none ∙ is) (none_inside (forest_of (map child_view (out-Node n).children.items))))
