use Rattle.std.proofs.Common.{arith}
use Rattle.std.specs.Prelude.{map}
use Rattle.type_nodes.specs.Links.{root}
use Rattle.type_nodes.specs.Views.{numbers}
use Rattle.declared_rows.proofs.Opens.{opened_one, opened_none}
use Rattle.type_expressions.proofs.Roots.{free_here, none_here, is_free_here, none_among, among_none, not_false, opened_goes}
use Rattle.type_expressions.proofs.unknowns.open_one.Goals.{else-free-via-then-free+else-is_root_of_none, else-free-via-else-free}
use Rattle.type_expressions.proofs.unknowns.open_one.Goals as goal

pub lower-requires-clause-var : goal.lower-requires-clause-var
lower-requires-clause-var c =
    let nodes = c.args.at.now.store.nodes in
    let x = free_here nodes c.args.node.0 c.read-view.result c.is_free-free.result c.requires.inside c.requires.end c.read-view.ensures c.is_free-free.ensures c.level_of-level.result c.level_of-level.ensures c.if-free.true in
    is_free_here nodes c.args.node.0 c.read-view.result c.is_free-free.result c.requires.inside c.requires.end c.read-view.ensures c.is_free-free.ensures c.level_of-level.result x

pub lower-requires-clause-level : goal.lower-requires-clause-level
lower-requires-clause-level c =
    let x = free_here c.args.at.now.store.nodes c.args.node.0 c.read-view.result c.is_free-free.result c.requires.inside c.requires.end c.read-view.ensures c.is_free-free.ensures c.level_of-level.result c.level_of-level.ensures c.if-free.true in
    let free = x.free in
    let small = c.level_of-level.type_inv in omega arith

pub returns-in_ok-lower-clause-goes : goal.returns-in_ok-lower-clause-goes
returns-in_ok-lower-clause-goes c =
    let x = free_here c.args.at.now.store.nodes c.args.node.0 c.read-view.result c.is_free-free.result c.requires.inside c.requires.end c.read-view.ensures c.is_free-free.ensures c.level_of-level.result c.level_of-level.ensures c.if-free.true in
    opened_goes c.args.at.now c.lower.new.self c.args.node.0 c.level_of-level.result c.requires.end x c.in_ok-lower.ensures.done c.in_ok-lower.ensures.keeps

pub returns-in_ok-lower-clause-opened : goal.returns-in_ok-lower-clause-opened
returns-in_ok-lower-clause-opened c =
    let nodes = c.args.at.now.store.nodes in
    let x = free_here nodes c.args.node.0 c.read-view.result c.is_free-free.result c.requires.inside c.requires.end c.read-view.ensures c.is_free-free.ensures c.level_of-level.result c.level_of-level.ensures c.if-free.true in
    opened_one c.args.at.now.store c.lower.new.self (map (root nodes) (numbers c.args.parameters.now)) c.args.node.0 c.level_of-level.result x.scope c.requires.end x.at x.free c.in_ok-lower.ensures.done
    (none_among nodes (numbers c.args.parameters.now) c.args.node.0 (c.is_root_of_none.ensures.0 c.if-is_root_of_none.true))

pub returns-else-free-clause-opened : goal.returns-else-free-clause-opened
returns-else-free-clause-opened c =
    let nodes = c.args.at.now.store.nodes in
    opened_none nodes (map (root nodes) (numbers c.args.parameters.now)) c.args.node.0 (λ l o e free none. elim c.else-free.branch [
      | else-free-via-then-free+else-is_root_of_none w ↦ not_false w.is_root_of_none.ensures w.if-is_root_of_none.false (among_none nodes (numbers c.args.parameters.now) c.args.node.0 none)
      | else-free-via-else-free w ↦ none_here nodes c.args.node.0 c.read-view.result c.is_free-free.result c.requires.inside c.requires.end c.read-view.ensures c.is_free-free.ensures w.if-free.false l o e free
    ])
