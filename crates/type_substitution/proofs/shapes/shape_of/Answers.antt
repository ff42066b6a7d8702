use Rattle.type_nodes.specs.Nodes.{IsNode, Tuple, Con}
use Rattle.type_nodes.specs.Links.{root, reading}
use Rattle.type_nodes.specs.Views.{numbers}
use Rattle.text_terms.specs.Bytes.{str_bytes}
use Rattle.level_unify.specs.Copies.{table_of}
use Rattle.level_unify.proofs.Walking.{parts_inside}
use Rattle.type_substitution.proofs.Copied.{keeps}
use Rattle.type_substitution.proofs.Made.{first_of, second_of}
use Rattle.type_substitution.proofs.shapes.shape_of.Goals as goal

pub is_any_changed-requires : goal.is_any_changed-requires
is_any_changed-requires c = parts_inside c.args.store.now.nodes c.requires.sound (root c.args.store.now.nodes c.args.node.0) _ c.in-Arrow.ensures

pub image_of-from-requires : goal.image_of-from-requires
image_of-from-requires c = first_of (IsNode c.args.store.now.nodes) _ _ (parts_inside c.args.store.now.nodes c.requires.sound (root c.args.store.now.nodes c.args.node.0) _ c.in-Arrow.ensures)

pub image_of-to-requires : goal.image_of-to-requires
image_of-to-requires c = second_of (IsNode c.args.store.now.nodes) _ _ (parts_inside c.args.store.now.nodes c.requires.sound (root c.args.store.now.nodes c.args.node.0) _ c.in-Arrow.ensures)

pub is_any_changed-requires-in-Tuple : goal.is_any_changed-requires-in-Tuple
is_any_changed-requires-in-Tuple c = parts_inside c.args.store.now.nodes c.requires.sound (root c.args.store.now.nodes c.args.node.0) _ c.in-Tuple.ensures

pub returns-then-not-is_any_changed-2 : goal.returns-then-not-is_any_changed-2
returns-then-not-is_any_changed-2 c = λ x e.
    keeps c.args.store.now.nodes (table_of c.args.copies.now) (reading c.args.store.now.nodes c.args.node.0) (Tuple (numbers c.in-Tuple.parts.now)) x (λ b. b) c.in-Tuple.ensures e (c.is_any_changed-in-Tuple.ensures c.if-not-is_any_changed-2.true)

pub images_of-requires : goal.images_of-requires
images_of-requires c = parts_inside c.args.store.now.nodes c.requires.sound (root c.args.store.now.nodes c.args.node.0) _ c.in-Tuple.ensures

pub is_any_changed-requires-in-Con : goal.is_any_changed-requires-in-Con
is_any_changed-requires-in-Con c = parts_inside c.args.store.now.nodes c.requires.sound (root c.args.store.now.nodes c.args.node.0) _ c.in-Con.ensures

pub returns-then-not-is_any_changed-3 : goal.returns-then-not-is_any_changed-3
returns-then-not-is_any_changed-3 c = λ x e.
    keeps c.args.store.now.nodes (table_of c.args.copies.now) (reading c.args.store.now.nodes c.args.node.0) (Con c.in-Con.origin.now.path.items (str_bytes c.in-Con.origin.now.name) (numbers c.in-Con.args.now)) x (λ b. b) c.in-Con.ensures e
    (c.is_any_changed-in-Con.ensures c.if-not-is_any_changed-3.true)

pub images_of-requires-in-Con : goal.images_of-requires-in-Con
images_of-requires-in-Con c = parts_inside c.args.store.now.nodes c.requires.sound (root c.args.store.now.nodes c.args.node.0) _ c.in-Con.ensures
