-- What the typed nodes are in the definitions.
use Rattle.std.specs.Prelude.{◌≡◌, List, [], Bool, true, false, Option, Some, None}
use Rattle.tree_model.specs.Trees.{Place}
use Rattle.query_model.specs.TypedNodes.{Typed, typed}
use Rattle.text_terms.specs.declared.Span.{Span}
use Rattle.syntax_tree.specs.View.{id_of, place_of}
use Rattle.query_engine.specs.declared.typed_nodes.TypedNode.{TypedNode}
use Rattle.query_engine.specs.declared.asked.QueryFault.{QueryFault}
use Rattle.query_engine.specs.declared.asked.QueryFault.TheVariants.{NoNode, NotAName, Unbound, NoMemory}
use Rattle.query_engine.specs.declared.types.Typed as code
use Rattle.query_engine.specs.declared.typed_nodes.Role.{Role}
use Rattle.query_engine.specs.declared.typed_nodes.Role.TheVariants.{Plain, MaybeLabel}

-- a typed node of the code
abbrev pub node_of : TypedNode → Typed
node_of n = typed (id_of n.id) (place_of n.span)

-- the node may be read as a label
abbrev pub may_be_label : Role → Bool
may_be_label Plain = false
may_be_label MaybeLabel = true

-- where a typed node stands
abbrev pub span_of : code.Typed → Place
span_of t = place_of t.span

-- there is none of these nodes, unless memory is short
abbrev pub IsNoNode : QueryFault → List Typed → Type 0
IsNoNode NoNode nodes = nodes ≡ []
IsNoNode NotAName nodes = ⊥
IsNoNode (Unbound ident) nodes = ⊥
IsNoNode NoMemory nodes = Unit {0}

-- the span is that of a typed node
abbrev pub IsPlacedAt : Span → Option Typed → Type 0
IsPlacedAt x None = ⊥
IsPlacedAt x (Some n) = place_of x ≡ n.span
