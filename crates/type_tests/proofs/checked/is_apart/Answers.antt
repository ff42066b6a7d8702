use Rattle.std.proofs.Common.{arith}
use Rattle.type_nodes.specs.Links.{root}
use Rattle.type_tests.proofs.Leaves.{leaf_apart}
use Rattle.type_tests.proofs.checked.is_apart.Goals as goal

pub returns-in-Con-default-empty : goal.returns-in-Con-default-empty
returns-in-Con-default-empty c = λ _.
    let nodes = c.args.store.now.nodes in
    let leaf_root = c.root.ensures.root in
    let node_root = c.root-2.ensures.root in
    let own = c.if-root-leaf.false in
    let other = c.if-root-leaf-2.false in
    leaf_apart nodes (root nodes c.args.node.0) c.args.leaf.0 _ _ _ (omega arith) c.in-Con-default-empty.ensures c.in-Con-default-empty.len_below (λ e. omega arith)
