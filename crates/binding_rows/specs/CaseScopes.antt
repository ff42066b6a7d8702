-- The names of patterns in scope.
use Rattle.std.specs.Prelude.{List, [], ◌∷◌}
use Rattle.typing_model.specs.Contexts.{Bound, monomorphic, entries_with}
use Rattle.env_table.specs.declared.entries.Entry.{Entry}
use Rattle.typing_conditions.specs.Carrying.{Scope}
use Rattle.typing_conditions.specs.Surroundings.{context_of}
use Rattle.pattern_rows.specs.Bounds.{Bind}

-- a scope with the names of patterns, which have one type each
abbrev pub with_bound : List Bound → Scope → Scope
with_bound bs scope = record scope { env = λ ch. entries_with monomorphic (context_of ch) bs (scope.env ch) }

-- the code's names with those of patterns before them, each before the one that was added last
abbrev pub names_added : List Bind → List Entry → List Entry
names_added [] env = env
names_added (y ∷ ys) env = names_added ys (y.entry ∷ env)
