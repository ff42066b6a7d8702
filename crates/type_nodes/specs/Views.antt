-- What the cells and the writes of the code mean, and what a view of a node shows.
use Rattle.std.specs.Prelude.{◌≡◌, ℕ, List, map, Option, Some}
use Rattle.text_terms.specs.Bytes.{str_bytes}
use Rattle.type_terms.specs.declared.types.NodeRef.{NodeRef}
use Rattle.type_nodes.specs.Nodes.{Node}
use Rattle.type_nodes.specs.Nodes.{Node as plain}
use Rattle.type_nodes.specs.States.{Change, State, state}
use Rattle.type_nodes.specs.States.{Change as change}
use Rattle.undo_trail.specs.declared.Trail.{Trail}
use Rattle.undo_trail.specs.Trails.{writes_of}
use Rattle.type_nodes.specs.declared.cells.Cell.{Cell}
use Rattle.type_nodes.specs.declared.cells.Cell.TheVariants.{Var, Rigid, Link, Arrow, Tuple, Con}
use Rattle.type_nodes.specs.declared.cells.Write.{Write}
use Rattle.type_nodes.specs.declared.cells.Write.TheVariants.{Made, Was}
use Rattle.type_nodes.specs.declared.cells.Cells.{Cells}
use Rattle.type_nodes.specs.declared.view.View.{View}
use Rattle.type_nodes.specs.declared.view.View.TheVariants as view

-- the numbers of nodes
abbrev pub numbers : List NodeRef → List ℕ
numbers ns = map (λ n. n.0) ns

-- a cell of the code as a node
abbrev pub node_of : Cell → Node
node_of (Var level scope) = plain.Var level scope
node_of Rigid = plain.Rigid
node_of (Link m) = plain.Link m.0
node_of (Arrow a b) = plain.Arrow a.0 b.0
node_of (Tuple ms) = plain.Tuple (numbers ms.items)
node_of (Con o ms) = plain.Con o.path.items (str_bytes o.name) (numbers ms.items)

-- the nodes of the code's cells
abbrev pub nodes_of : Cells → List Node
nodes_of cells = map node_of cells.list.items

-- a write of the code
abbrev pub change_of : Write → Change
change_of Made = change.Made
change_of (Was n c) = change.Was n.0 (node_of c)

-- the state of the code's cells and trail
abbrev pub state_of : Cells → Trail Write → State
state_of cells trail = state (nodes_of cells) (map change_of (writes_of trail))

-- a view shows what stands at the number r
abbrev pub Shows : View → ℕ → Option Node → Type 0
Shows (view.Var level scope) r c = c ≡ Some (plain.Var level scope)
Shows (view.Rigid number) r c = (c ≡ Some plain.Rigid) × (number ≡ r)
Shows (view.Arrow a b) r c = c ≡ Some (plain.Arrow a.0 b.0)
Shows (view.Tuple ms) r c = c ≡ Some (plain.Tuple (numbers ms.now))
Shows (view.Con o ms) r c = c ≡ Some (plain.Con o.now.path.items (str_bytes o.now.name) (numbers ms.now))
