use Rattle.level_unify.proofs.Binding.{above_at, above_is_free, bound_one}
use Rattle.level_unify.proofs.schemes.bind_above.Goals as goal

pub quantify-requires : goal.quantify-requires
quantify-requires c =
    let a = above_at c.args.store.now.nodes c.args.node.0 c.args.level c.read.result c.is_above.result c.requires.inside c.requires.end c.read.ensures c.is_above.ensures in
    above_is_free c.args.store.now.nodes c.args.node.0 c.args.level c.is_above.result c.requires.inside c.requires.end c.if-is_above.true a

pub returns-in_ok-quantify-clause-bound : goal.returns-in_ok-quantify-clause-bound
returns-in_ok-quantify-clause-bound c =
    let a = above_at c.args.store.now.nodes c.args.node.0 c.args.level c.read.result c.is_above.result c.requires.inside c.requires.end c.read.ensures c.is_above.ensures in
    bound_one c.args.store.now c.quantify.new.self c.args.node.0 c.args.level c.is_above.result c.requires.end c.if-is_above.true a c.in_ok-quantify.ensures.done
