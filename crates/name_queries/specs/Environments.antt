-- The names in scope at an offset, and behind modules.
use Rattle.std.specs.Prelude.{ℕ, List, [], Option, Some, None}
use Rattle.std.specs.Option.{option_map_or}
use Rattle.tree_model.specs.Nodes.{Id}
use Rattle.signature_model.specs.Declarations.{Name}
use Rattle.signature_model.specs.Lookups.{ScopeOf, known, unknown_scope, no_scope, scope_by}
use Rattle.syntax_tree.specs.View.{trees_of}
use Rattle.env_table.specs.declared.entries.Entry.{Entry}
use Rattle.env_table.specs.Views.{is_named, inside}
use Rattle.typed_index.specs.Seen.{seen_at}
use Rattle.query_model.specs.ScopeNodes.{scope_node}
use Rattle.query_engine.specs.declared.asked.Asked.{Asked}

-- the names in scope that are recorded for a node; where nothing is, those behind the last item
abbrev pub env_of : Asked → Id → List Entry
env_of a i = option_map_or (λ s. s.env) (seen_at a.index.now i.item i.pre) a.end.now

-- the names in scope at an offset: those of the node in whose names it stands, or else those behind the last item
abbrev pub env_at : Asked → ℕ → List Entry
env_at a o = option_map_or (env_of a) (scope_node o (trees_of a.tree.now)) a.end.now

-- the names that are known to stand in a scope; in a module that isn't known none are
abbrev pub known_names : ScopeOf Entry → Option (List Entry)
known_names (known es) = Some es
known_names unknown_scope = Some []
known_names no_scope = None

-- the names behind a path of modules, if it leads to a module
abbrev pub names_behind : List Entry → List Name → Option (List Entry)
names_behind env path = known_names (scope_by is_named inside env path)
