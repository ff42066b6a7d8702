-- The node in whose names an offset stands.
use Rattle.std.specs.Prelude.{ℕ, ◌+◌, List, [], ◌∷◌, nat_lt, Option, Some, None, if◌then◌else◌}
use Rattle.std.specs.Option.{option_or}
use Rattle.tree_model.specs.Trees.{Tree, node}
use Rattle.tree_model.specs.Nodes.{Id, id}
use Rattle.query_model.specs.Touching.{touched_at}

-- where a tree starts
abbrev pub start_of : Tree → ℕ
start_of (node r x ps) = x.span.start

-- the first item that starts behind an offset, where the first of these items has the number i
abbrev pub item_behind : ℕ → ℕ → List Tree → Option Id
item_behind o i [] = None
item_behind o i (t ∷ ts) = if nat_lt o (start_of t) then Some (id i 0) else item_behind o (i + 1) ts

-- The last node that an offset touches. Where there is none, the first item behind the offset: it is treated in the names behind the last item before.
abbrev pub scope_node : ℕ → List Tree → Option Id
scope_node o items = option_or (touched_at o items) (item_behind o 1 items)
