use Rattle.std.proofs.Common.{length, arith}
use Rattle.type_nodes.specs.Views.{numbers}
use Rattle.level_unify.proofs.Numbers.{number_get, numbers_length, below_more, all_below}
use Rattle.type_tests.proofs.checked.are_nodes.Goals as goal

pub loop-node-preserved : goal.loop-node-preserved
loop-node-preserved c =
    let e = c.len.ensures.count in
    let lt = c.if-node-len.false in
    below_more (numbers c.args.nodes.now) c.loop-node.node-index _ (length c.args.store.now.nodes) (number_get c.args.nodes.now c.loop-node.node-index (record { 0 = 0 }) c.loop-node-test.true) (omega arith) c.loop-node.invariant

pub returns : goal.returns
returns c = λ _.
    let l = numbers_length c.args.nodes.now in
    let over = c.loop-node-test.false in
    all_below (numbers c.args.nodes.now) c.loop-node.node-index (length c.args.store.now.nodes) (omega arith) c.loop-node.invariant
