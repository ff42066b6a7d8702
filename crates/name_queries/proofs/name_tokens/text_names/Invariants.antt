use Rattle.std.proofs.Common.{◌≡◌, ◌++◌, map, drop}
use Rattle.query_model.specs.NameTokens.{names_items}
use Rattle.syntax_tree.specs.View.{node_view, trees_of}
use Rattle.name_queries.specs.NameTokens.{name_of}
use Rattle.name_queries.proofs.name_tokens.text_names.Given as goal

abbrev pub invariant-loop-item : goal.invariant-loop-item
invariant-loop-item l = map name_of l.out.items ++ names_items l.number (map (λ n. node_view n.value) (drop l.item-index l.tree.items.items)) ≡ names_items 1 (trees_of l.tree)
