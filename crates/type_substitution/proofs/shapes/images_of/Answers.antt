use Rattle.type_nodes.specs.Nodes.{IsNode}
use Rattle.level_unify.proofs.Numbers.{number_at}
use Rattle.type_substitution.proofs.shapes.images_of.Goals as goal

pub image_of-requires : goal.image_of-requires
image_of-requires c = number_at (IsNode c.args.store.now.nodes) c.args.nodes.now c.loop-node.node-index _ c.requires c.loop-node-test.true
