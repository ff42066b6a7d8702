use Rattle.type_nodes.specs.Links.{root}
use Rattle.level_unify.proofs.Walking.{parts_inside}
use Rattle.level_unify.proofs.walk.next_part.Goals as goal

pub next_among-requires : goal.next_among-requires
next_among-requires c = parts_inside c.args.store.now.nodes c.requires.sound (root c.args.store.now.nodes c.args.visit.node.0) _ c.in-Arrow.ensures

pub next_among-requires-in-Tuple : goal.next_among-requires-in-Tuple
next_among-requires-in-Tuple c = parts_inside c.args.store.now.nodes c.requires.sound (root c.args.store.now.nodes c.args.visit.node.0) _ c.in-Tuple.ensures

pub next_among-requires-in-Con : goal.next_among-requires-in-Con
next_among-requires-in-Con c = parts_inside c.args.store.now.nodes c.requires.sound (root c.args.store.now.nodes c.args.visit.node.0) _ c.in-Con.ensures
