use Rattle.std.proofs.Common.{◌≡◌, ◌++◌, map, drop, filter}
use Rattle.syntax_tree.specs.View.{place_of}
use Rattle.name_queries.specs.NameTokens.{name_of}
use Rattle.name_queries.specs.Places.{entry_place, is_defined_at}
use Rattle.name_queries.proofs.locations.spans_defined_at.Given as goal

abbrev pub invariant-loop-name : goal.invariant-loop-name
invariant-loop-name l =
    let here = is_defined_at (entry_place l.asked.index.now) l.place in
    map place_of l.spans.items ++ map (λ n. n.span) (filter here (map name_of (drop l.name-index l.names))) ≡ map (λ n. n.span) (filter here (map name_of l.names))
