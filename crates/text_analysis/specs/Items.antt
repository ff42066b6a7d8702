-- The plain trees of items.
use Rattle.std.specs.Prelude.{List, map}
use Rattle.std.specs.declared.rc.Rc.{Rc}
use Rattle.std.specs.declared.alloc.Global.{Global}
use Rattle.tree_model.specs.Trees.{Tree}
use Rattle.syntax_tree.specs.declared.tree.Node.{Node}
use Rattle.syntax_tree.specs.View.{node_view}

-- the trees of these nodes, in order
abbrev pub views_of : List (Rc Node Global) → List Tree
views_of ns = map (λ n. node_view n.value) ns
