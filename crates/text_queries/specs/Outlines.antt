-- What outlined members are in the definitions.
use Rattle.std.specs.Prelude.{ℕ, List, Option, Some}
use Rattle.text_terms.specs.Bytes.{str_bytes}
use Rattle.tree_model.specs.Trees.{Tree, node}
use Rattle.query_model.specs.Outlines.{Member, member, members_of, bound_as, bound_inside, inner_slot}
use Rattle.syntax_tree.specs.View.{place_of}
use Rattle.query_engine.specs.declared.slots.Binder.{Binder}
use Rattle.query_engine.specs.View.{kind_of, binder_of}
use Rattle.text_queries.specs.declared.outlines.Outlined.{Outlined, fold-Outlined}
use Rattle.text_queries.specs.declared.outlines.Outlined.TheOpen.{Outlined-F}

-- one level, with what stands inside already seen
abbrev pub outlined_step : Outlined-F Member → Member
outlined_step o = member (kind_of o.kind) (str_bytes o.name) (place_of o.span) (members_of o.children.items)

-- a bound name, with what is bound inside
abbrev pub member_of : Outlined → Member
member_of = fold-Outlined Member outlined_step

-- what is bound inside a node
abbrev pub inside : Tree → List Member
inside (node r x ps) = bound_inside (inner_slot r) ps

-- what is bound by the parts in a slot of a node
abbrev pub inside_by : Option ℕ → Tree → List Member
inside_by s (node r x ps) = bound_inside s ps

-- a member for each name of an item
abbrev pub named_as : Binder → Tree → List Member
named_as b (node r x ps) = bound_as (Some (binder_of b)) x.span (node r x ps) (bound_inside (inner_slot r) ps)
