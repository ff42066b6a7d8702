use Rattle.std.proofs.Common.{◌∙◌, arith}
use Rattle.type_nodes.specs.Views.{numbers}
use Rattle.type_nodes.proofs.Trails.{keeps_trans}
use Rattle.level_unify.proofs.Numbers.{number_get, numbers_length}
use Rattle.level_unify.proofs.Binding.{bound_on, generalised}
use Rattle.level_unify.proofs.schemes.bind_found.Goals as goal

pub bind_above-requires-clause-inside : goal.bind_above-requires-clause-inside
bind_above-requires-clause-inside c =
    let e = number_get c.args.found.now c.loop-node.node-index (record { 0 = 0 }) c.loop-node-test.true in
    let lt = (c.requires.roots c.loop-node.node-index _ e).0 in
    let len = c.loop-node.invariant.0.len in
    omega arith

pub bind_above-requires-clause-end : goal.bind_above-requires-clause-end
bind_above-requires-clause-end c =
    let e = number_get c.args.found.now c.loop-node.node-index (record { 0 = 0 }) c.loop-node-test.true in
    c.loop-node.invariant.0.roots _ ∙ (c.requires.roots c.loop-node.node-index _ e).1

pub loop-node-preserved : goal.loop-node-preserved
loop-node-preserved c =
    let e = number_get c.args.found.now c.loop-node.node-index (record { 0 = 0 }) c.loop-node-test.true in (
      bound_on c.args.store.now.nodes c.loop-node.store.nodes c.bind_above.new.store.nodes c.args.root.0 c.args.level (numbers c.args.found.now) c.loop-node.node-index _ c.requires e
          c.loop-node.invariant.0 c.in_ok-bind_above.ensures.bound,
      keeps_trans c.args.store.now c.loop-node.store c.bind_above.new.store c.loop-node.invariant.1 c.bind_above.ensures.keeps,
    )

pub returns-clause-bound : goal.returns-clause-bound
returns-clause-bound c =
    let l = numbers_length c.args.found.now in
    let over = c.loop-node-test.false in
    generalised c.args.store.now.nodes c.loop-node.store.nodes c.args.root.0 c.args.level (numbers c.args.found.now) c.loop-node.node-index (omega arith) c.requires c.loop-node.invariant.0
