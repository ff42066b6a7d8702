use Rattle.level_unify.specs.declared.limits.Asked.TheVariants.{Lower}
use Rattle.level_unify.proofs.Limiting.{asked_at, asked_free, lowered_one}
use Rattle.level_unify.proofs.limits.lower_one.Goals as goal

pub lower-requires-clause-var : goal.lower-requires-clause-var
lower-requires-clause-var c =
    let p = asked_at c.args.store.now.nodes c.args.node.0 c.args.limit.level c.args.limit.scope c.read.result (Lower c.in-Lower.level c.in-Lower.scope) c.requires.inside c.requires.root c.read.ensures c.in-Lower.ensures.asks c.in-Lower.ensures.small in
    asked_free c.args.store.now.nodes c.args.node.0 c.args.limit.level c.args.limit.scope c.in-Lower.level c.in-Lower.scope c.requires.inside c.requires.root p

pub lower-requires-clause-level : goal.lower-requires-clause-level
lower-requires-clause-level c =
    let p = asked_at c.args.store.now.nodes c.args.node.0 c.args.limit.level c.args.limit.scope c.read.result (Lower c.in-Lower.level c.in-Lower.scope) c.requires.inside c.requires.root c.read.ensures c.in-Lower.ensures.asks c.in-Lower.ensures.small in
    p.asks.2

pub returns-in_ok-lower-in-Lower-clause-lowered : goal.returns-in_ok-lower-in-Lower-clause-lowered
returns-in_ok-lower-in-Lower-clause-lowered c =
    let p = asked_at c.args.store.now.nodes c.args.node.0 c.args.limit.level c.args.limit.scope c.read.result (Lower c.in-Lower.level c.in-Lower.scope) c.requires.inside c.requires.root c.read.ensures c.in-Lower.ensures.asks c.in-Lower.ensures.small in
    lowered_one c.args.store.now c.lower.new.self c.args.node.0 c.args.limit.level c.args.limit.scope c.in-Lower.level c.in-Lower.scope c.requires.root p c.in_ok-lower-in-Lower.ensures.done
