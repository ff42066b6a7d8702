use Rattle.std.proofs.Common.{◌<◌, ◌^◌, ◌∙◌, arith, sym}
use Rattle.std.proofs.lemmas.Result.{err_from_is_err_and}
use Rattle.type_nodes.specs.Views.{numbers}
use Rattle.type_nodes.proofs.Trails.{keeps_trans}
use Rattle.level_unify.proofs.Numbers.{number_get}
use Rattle.level_unify.proofs.SameNodes.{same_root}
use Rattle.level_unify.proofs.Lowering.{lowered_nodes, lowered_on, never_lowered}
use Rattle.level_unify.proofs.limits.lower_found.Goals as goal

pub lower_one-requires-clause-inside : goal.lower_one-requires-clause-inside
lower_one-requires-clause-inside c =
    let e = number_get c.args.found.now c.loop-node.node-index (record { 0 = 0 }) c.loop-node-test.true in
    let lt = (c.requires.found.each c.loop-node.node-index _ e).0 in
    let len = c.loop-node.invariant.0.len in
    omega arith

pub lower_one-requires-clause-root : goal.lower_one-requires-clause-root
lower_one-requires-clause-root c =
    let e = number_get c.args.found.now c.loop-node.node-index (record { 0 = 0 }) c.loop-node-test.true in
    let same = lowered_nodes c.args.store.now.nodes c.loop-node.store.nodes c.args.limit.level c.args.limit.scope c.args.limit.var.0 (numbers c.args.found.now) c.loop-node.node-index c.requires.free c.loop-node.invariant.0 in
    same_root c.args.store.now.nodes c.loop-node.store.nodes same _ ∙ (c.requires.found.each c.loop-node.node-index _ e).1

pub returns-in_err-lower_one-clause-clash : goal.returns-in_err-lower_one-clause-clash
returns-in_err-lower_one-clause-clash c =
    let p = err_from_is_err_and c.from_residual.result c.from_residual.ensures.1 in
    let e = number_get c.args.found.now c.loop-node.node-index (record { 0 = 0 }) c.loop-node-test.true in
    let small : c.args.limit.scope < 2 ^ 64 = search in
    rw p.1 (λ h. never_lowered c.args.store.now.nodes c.loop-node.store.nodes c.args.limit.level c.args.limit.scope c.args.limit.var.0 (numbers c.args.found.now) c.loop-node.node-index _ small
    (c.requires.found.each c.loop-node.node-index _ e).0 c.requires.found e c.loop-node.invariant.0 (c.in_err-lower_one.ensures.clash (sym p.2 ∙ h)))

pub loop-node-preserved : goal.loop-node-preserved
loop-node-preserved c =
    let e = number_get c.args.found.now c.loop-node.node-index (record { 0 = 0 }) c.loop-node-test.true in (
      lowered_on c.args.store.now.nodes c.loop-node.store.nodes c.lower_one.new.store.nodes c.args.limit.level c.args.limit.scope c.args.limit.var.0 (numbers c.args.found.now) c.loop-node.node-index _
          c.requires.free c.requires.found e c.loop-node.invariant.0 c.in_ok-lower_one.ensures.lowered,
      keeps_trans c.args.store.now c.loop-node.store c.lower_one.new.store c.loop-node.invariant.1 c.lower_one.ensures.keeps,
    )
