use Rattle.std.proofs.Common.{arith}
use Rattle.type_nodes.specs.Nodes.{IsNode}
use Rattle.level_unify.proofs.Numbers.{number_at}
use Rattle.level_unify.proofs.solve.are_one.Goals as goal

pub root-requires : goal.root-requires
root-requires c = number_at (IsNode c.args.store.now.nodes) c.args.lefts.now c.loop-i.i _ c.requires.lefts c.loop-i-test.true

pub root-requires-in-loop-i : goal.root-requires-in-loop-i
root-requires-in-loop-i c = number_at (IsNode c.args.store.now.nodes) c.args.rights.now c.loop-i.i _ c.requires.rights (let e = c.requires.length in let l = c.loop-i-test.true in omega arith)
