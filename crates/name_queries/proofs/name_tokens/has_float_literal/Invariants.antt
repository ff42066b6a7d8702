use Rattle.std.proofs.Common.{◌≡◌, map, drop}
use Rattle.query_model.specs.NameTokens.{has_float_literal}
use Rattle.syntax_tree.specs.View.{child_view, forest_of}
use Rattle.name_queries.proofs.name_tokens.has_float_literal.Given as goal

abbrev pub invariant-loop-child : goal.invariant-loop-child
invariant-loop-child l = has_float_literal (forest_of (map child_view (drop l.child-index l.children))) ≡ has_float_literal (forest_of (map child_view l.children))
