use Rattle.std.proofs.Common.{◌<◌, ◌∙◌, ap, Some, length, arith}
use Rattle.std.proofs.lemmas.List.{length-map}
use Rattle.type_nodes.specs.Views.{node_of, nodes_of}
use Rattle.type_nodes.proofs.Walks.{walk_start, walk_on, walk_end, cell_inside, read_at, not_link}
use Rattle.type_nodes.proofs.cells.root_of.Goals as goal

pub loop-turn-init : goal.loop-turn-init
loop-turn-init c = walk_start (nodes_of c.args.cells.now) c.args.n.0 c.requires.inside c.requires.sound

pub index-requires : goal.index-requires
index-requires c =
    let inside : c.loop-turn.at.0 < length c.args.cells.now.list.items = cell_inside c.args.cells.now.list.items c.loop-turn.at.0 c.loop-turn.invariant.inside in
    omega arith

pub returns-in_default : goal.returns-in_default
returns-in_default c =
    walk_end (nodes_of c.args.cells.now) c.args.n.0 c.loop-turn.at.0 c.loop-turn._turn (node_of c.index.result.now)
    (read_at c.args.cells.now.list.items c.loop-turn.at.0 c.index.result.now c.loop-turn.invariant.inside c.index.ensures)
    (not_link c.index.result.now c.in_default.not-Link) c.loop-turn.invariant

pub loop-turn-preserved : goal.loop-turn-preserved
loop-turn-preserved c =
    walk_on (nodes_of c.args.cells.now) c.args.n.0 c.loop-turn.at.0 c.loop-turn._turn c.in-Link.m.0
    (read_at c.args.cells.now.list.items c.loop-turn.at.0 c.index.result.now c.loop-turn.invariant.inside c.index.ensures ∙ ap (λ x. Some (node_of x)) c.in-Link.is)
    c.loop-turn.invariant

pub unreachable-requires : goal.unreachable-requires
unreachable-requires c =
    let room = c.loop-turn.invariant.room in
    let len = length-map c.args.cells.now.list.items node_of in
    let counted = c.len-turn-end.ensures in
    let ended = c.loop-turn-test.false in
    omega arith
