use Rattle.std.proofs.Common.{map, filter}
use Rattle.syntax_tree.specs.View.{place_of}
use Rattle.name_queries.specs.NameTokens.{name_of}
use Rattle.name_queries.specs.Places.{entry_place, is_defined_at}
use Rattle.name_queries.proofs.Kept.{kept_more}
use Rattle.name_queries.proofs.locations.spans_defined_at.Goals as goal

pub loop-name-preserved : goal.loop-name-preserved
loop-name-preserved c =
    let here = is_defined_at (entry_place c.args.asked.now.index.now) c.args.place in
    kept_more here c.args.names.now c.loop-name.name-index c.name-item.result (map place_of c.loop-name.spans.items) (map place_of c.keep.new.spans.items)
    (map (λ n. n.span) (filter here (map name_of c.args.names.now))) c.loop-name-test.true c.name-item.is c.in_ok-keep.ensures c.loop-name.invariant
