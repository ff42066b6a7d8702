-- Bindings as the code has typed them.
use Rattle.std.specs.Prelude.{ℕ, Bool, List, map}
use Rattle.syntax_tree.specs.View.{node_view}
use Rattle.pattern_typing.specs.declared.patterns.BoundName.{BoundName}
use Rattle.pattern_typing.specs.Matching.{binds_of}
use Rattle.binding_rows.specs.Groups.{TypedBinding, OpenedBinding}
use Rattle.binding_rows.specs.Carried.{NumberedNode}
use Rattle.binding_rows.specs.Lets.{ToClose, bind_nodes}
use Rattle.binding_steps.specs.declared.groups.Opened.{Opened}
use Rattle.binding_steps.specs.declared.groups.Bound.{Bound}

-- a typed binding: its names, and the node of its right side
abbrev pub typed_of : Bound → TypedBinding
typed_of b = record { names = binds_of b.matched.names.items; right = b.right.0 }

-- the same as it is closed
abbrev pub closing_of : Bound → ToClose
closing_of b = record { names = binds_of b.matched.names.items; right = b.right.0; general = b.generalises }

-- whether the names of each are generalised
abbrev pub generals : List Bound → List Bool
generals bs = map (λ (b : Bound). b.generalises) bs

-- a binding whose pattern is typed
abbrev pub opened_of : Opened → OpenedBinding
opened_of o = record { node = o.matched.ty.0; names = binds_of o.matched.names.items }

-- its node
abbrev pub node_of : Opened → NumberedNode
node_of o = record { number = o.binding.number; tree = node_view o.binding.node.now }

-- the nodes of the types of names
abbrev pub name_nodes : List BoundName → List ℕ
name_nodes names = bind_nodes (binds_of names)
