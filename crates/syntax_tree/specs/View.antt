-- The plain tree that a node stands for.
use Rattle.std.specs.Prelude.{ℕ, List, [], ◌∷◌, map}
use Rattle.text_terms.specs.declared.Span.{Span}
use Rattle.text_terms.specs.Bytes.{str_bytes}
use Rattle.token_model.specs.Kinds.{Tok}
use Rattle.tree_model.specs.Trees as plain
use Rattle.tree_model.specs.Nodes.{Id}
use Rattle.syntax_tree.specs.Names.{kind_of, row_of}
use Rattle.syntax_tree.specs.declared.tree.Token.{Token}
use Rattle.syntax_tree.specs.declared.tree.Node.{Node, fold-Node}
use Rattle.syntax_tree.specs.declared.tree.Child.{Child, fold-Child}
use Rattle.syntax_tree.specs.declared.tree.Part.{Part, fold-Part}
use Rattle.syntax_tree.specs.declared.tree.Part.TheOpen.{Part-F, Child-F, Node-F}
use Rattle.syntax_tree.specs.declared.tree.Tree.{Tree}
use Rattle.syntax_tree.specs.declared.tree.NodeId.{NodeId}

-- where a span is
abbrev pub place_of : Span → plain.Place
place_of s = record { start = s.start; end = s.end }

-- a token without its reach
abbrev pub tok_of : Token → Tok
tok_of t = record { kind = kind_of t.kind; start = t.span.start; end = t.span.end; col = t.col; name = str_bytes t.name }

-- parts with their slots, in order
abbrev pub forest_of : List (ℕ × plain.Part) → plain.Forest
forest_of [] = plain.no_parts
forest_of (c ∷ cs) = plain.part c.0 c.1 (forest_of cs)

-- one level, with each part inside already seen
abbrev pub part_step : Part-F plain.Part (ℕ × plain.Part) plain.Tree → plain.Part
part_step (Part-F.Taken t) = plain.taken (tok_of t)
part_step (Part-F.Inner n) = plain.inner n.value
part_step (Part-F.Missing s) = plain.missing (place_of s)

-- a child is its slot and its part
abbrev pub child_step : Child-F plain.Part (ℕ × plain.Part) plain.Tree → ℕ × plain.Part
child_step c = (c.slot, c.part)

-- a node is its row, what it tells of itself, and its parts
abbrev pub node_step : Node-F plain.Part (ℕ × plain.Part) plain.Tree → plain.Tree
node_step n = plain.node (row_of n.row) (plain.extent (place_of n.span) n.size n.height) (forest_of n.children.items)

-- the plain tree of a node
abbrev pub node_view : Node → plain.Tree
node_view = fold-Node plain.Part (ℕ × plain.Part) plain.Tree part_step child_step node_step

-- the slot and the plain part of a child
abbrev pub child_view : Child → ℕ × plain.Part
child_view = fold-Child plain.Part (ℕ × plain.Part) plain.Tree part_step child_step node_step

-- the plain part of a part
abbrev pub part_view : Part → plain.Part
part_view = fold-Part plain.Part (ℕ × plain.Part) plain.Tree part_step child_step node_step

-- the items of a text, in order
abbrev pub trees_of : Tree → List plain.Tree
trees_of t = map (λ n. node_view n.value) t.items.items

-- the item and the number of a node
abbrev pub id_of : NodeId → Id
id_of n = record { item = n.item; pre = n.pre }
