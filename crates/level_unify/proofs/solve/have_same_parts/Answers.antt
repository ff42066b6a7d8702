use Rattle.type_nodes.specs.Links.{root}
use Rattle.level_unify.proofs.Walking.{parts_inside}
use Rattle.level_unify.proofs.Likeness.{same_heads, as_long}
use Rattle.level_unify.proofs.solve.have_same_parts.Goals as goal

pub are_one-requires-clause-lefts : goal.are_one-requires-clause-lefts
are_one-requires-clause-lefts c = parts_inside c.args.store.now.nodes c.requires.sound (root c.args.store.now.nodes c.args.left.0) _ c.in-Arrow.ensures

pub are_one-requires-clause-rights : goal.are_one-requires-clause-rights
are_one-requires-clause-rights c = parts_inside c.args.store.now.nodes c.requires.sound (root c.args.store.now.nodes c.args.right.0) _ c.in-Arrow-read.ensures

pub are_one-requires-in-Tuple-read-clause-lefts : goal.are_one-requires-in-Tuple-read-clause-lefts
are_one-requires-in-Tuple-read-clause-lefts c = parts_inside c.args.store.now.nodes c.requires.sound (root c.args.store.now.nodes c.args.left.0) _ c.in-Tuple.ensures

pub are_one-requires-in-Tuple-read-clause-rights : goal.are_one-requires-in-Tuple-read-clause-rights
are_one-requires-in-Tuple-read-clause-rights c = parts_inside c.args.store.now.nodes c.requires.sound (root c.args.store.now.nodes c.args.right.0) _ c.in-Tuple-read.ensures

pub are_one-requires-in-Con-read-clause-lefts : goal.are_one-requires-in-Con-read-clause-lefts
are_one-requires-in-Con-read-clause-lefts c = parts_inside c.args.store.now.nodes c.requires.sound (root c.args.store.now.nodes c.args.left.0) _ c.in-Con.ensures

pub are_one-requires-in-Con-read-clause-rights : goal.are_one-requires-in-Con-read-clause-rights
are_one-requires-in-Con-read-clause-rights c = parts_inside c.args.store.now.nodes c.requires.sound (root c.args.store.now.nodes c.args.right.0) _ c.in-Con-read.ensures

pub are_one-requires-in-Tuple-read-clause-length : goal.are_one-requires-in-Tuple-read-clause-length
are_one-requires-in-Tuple-read-clause-length c = as_long c.in-Tuple.parts.now c.in-Tuple-read.others.now
    (same_heads c.args.store.now.nodes c.args.left.0 c.args.right.0 _ _ c.requires.heads c.requires.left_root c.requires.right_root c.in-Tuple.ensures c.in-Tuple-read.ensures)

pub are_one-requires-in-Con-read-clause-length : goal.are_one-requires-in-Con-read-clause-length
are_one-requires-in-Con-read-clause-length c = as_long c.in-Con.args.now c.in-Con-read.others.now
    (same_heads c.args.store.now.nodes c.args.left.0 c.args.right.0 _ _ c.requires.heads c.requires.left_root c.requires.right_root c.in-Con.ensures c.in-Con-read.ensures).1
