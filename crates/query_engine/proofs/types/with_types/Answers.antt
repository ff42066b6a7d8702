use Rattle.std.proofs.Common.{map}
use Rattle.query_engine.specs.declared.typed_nodes.TypedNode.{TypedNode}
use Rattle.query_engine.specs.Typed.{node_of}
use Rattle.query_engine.proofs.ShownTypes.{shown_more, shown_all, shown_places}
use Rattle.query_engine.proofs.types.with_types.Goals as goal

pub loop-node-preserved : goal.loop-node-preserved
loop-node-preserved c =
    let any : TypedNode = record { id = record { item = 0; pre = 0 }; span = record { start = 0; end = 0 } } in
    shown_more c.args.asked.now c.args.nodes.now c.loop-node.node-index any c.loop-node.types.items c.push.new.types.items c.in_ok-typed_of.field-0 c.loop-node-test.true c.loop-node.invariant c.in_ok-typed_of.ensures c.in_ok-push.ensures

pub returns-clause-shown : goal.returns-clause-shown
returns-clause-shown c = shown_all c.args.asked.now c.args.nodes.now c.loop-node.node-index c.loop-node.types.items c.loop-node-test.false c.loop-node.invariant

pub returns-clause-places : goal.returns-clause-places
returns-clause-places c = shown_places c.args.asked.now (map node_of c.args.nodes.now) c.loop-node.types.items (returns-clause-shown c)
