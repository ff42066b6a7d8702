use Rattle.level_unify.specs.Copies.{table_of}
use Rattle.level_unify.proofs.Solving.{own_root}
use Rattle.level_unify.proofs.Images.{shape_inside}
use Rattle.level_unify.proofs.copies.copy_one.Goals as goal

pub make-requires-clause-parts : goal.make-requires-clause-parts
make-requires-clause-parts c =
    let own = own_root c.args.store.now.nodes c.args.node.0 c.root-root.result.0 c.root-root.ensures.sound c.requires.node c.root-root.ensures.root in
    shape_inside c.args.store.now.nodes (table_of c.args.copies.now) c.root-root.result.0 c.args.fresh _ c.in-Some.shape c.root-root.ensures.sound c.requires.inside own.0 own.1 c.in-Some.is c.in_ok-shape.ensures
