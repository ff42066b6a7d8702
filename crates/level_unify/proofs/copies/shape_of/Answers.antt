use Rattle.text_terms.specs.Bytes.{str_bytes}
use Rattle.type_nodes.specs.Nodes.{IsNode}
use Rattle.type_nodes.specs.Links.{root, reading}
use Rattle.level_unify.proofs.Walking.{parts_inside}
use Rattle.type_nodes.specs.Views.{numbers}
use Rattle.level_unify.specs.Copies.{table_of}
use Rattle.level_unify.proofs.Images.{first_of, second_of, con_shared, con_copied}
use Rattle.level_unify.proofs.copies.shape_of.Goals as goal

pub is_any_copied-requires : goal.is_any_copied-requires
is_any_copied-requires c = parts_inside c.args.store.now.nodes c.requires.sound (root c.args.store.now.nodes c.args.node.0) _ c.in-Arrow.ensures

pub image_of-from-requires : goal.image_of-from-requires
image_of-from-requires c = first_of (IsNode c.args.store.now.nodes) _ _ (parts_inside c.args.store.now.nodes c.requires.sound (root c.args.store.now.nodes c.args.node.0) _ c.in-Arrow.ensures)

pub image_of-to-requires : goal.image_of-to-requires
image_of-to-requires c = second_of (IsNode c.args.store.now.nodes) _ _ (parts_inside c.args.store.now.nodes c.requires.sound (root c.args.store.now.nodes c.args.node.0) _ c.in-Arrow.ensures)

pub is_any_copied-requires-in-Tuple : goal.is_any_copied-requires-in-Tuple
is_any_copied-requires-in-Tuple c = parts_inside c.args.store.now.nodes c.requires.sound (root c.args.store.now.nodes c.args.node.0) _ c.in-Tuple.ensures

pub images_of-requires : goal.images_of-requires
images_of-requires c = parts_inside c.args.store.now.nodes c.requires.sound (root c.args.store.now.nodes c.args.node.0) _ c.in-Tuple.ensures

pub is_any_copied-requires-in-Con : goal.is_any_copied-requires-in-Con
is_any_copied-requires-in-Con c = parts_inside c.args.store.now.nodes c.requires.sound (root c.args.store.now.nodes c.args.node.0) _ c.in-Con.ensures

pub images_of-requires-in-Con : goal.images_of-requires-in-Con
images_of-requires-in-Con c = parts_inside c.args.store.now.nodes c.requires.sound (root c.args.store.now.nodes c.args.node.0) _ c.in-Con.ensures

pub returns-then-not-is_any_copied-3 : goal.returns-then-not-is_any_copied-3
returns-then-not-is_any_copied-3 c = λ n e.
    con_shared c.args.store.now.nodes (table_of c.args.copies.now) (reading c.args.store.now.nodes c.args.node.0) _ _ (numbers c.in-Con.args.now) n c.is_any_copied-in-Con.result c.in-Con.ensures e c.is_any_copied-in-Con.ensures c.if-not-is_any_copied-3.true

pub returns-in_ok-origin-in-Con : goal.returns-in_ok-origin-in-Con
returns-in_ok-origin-in-Con c = λ n e new.
    con_copied c.args.store.now.nodes (table_of c.args.copies.now) (reading c.args.store.now.nodes c.args.node.0) _ _ (numbers c.in-Con.args.now) c.in_ok-origin-in-Con.origin.path.items (str_bytes c.in_ok-origin-in-Con.origin.name) (numbers c.in_ok-args-in-Con.args.items) new n
    c.is_any_copied-in-Con.result c.in-Con.ensures e c.is_any_copied-in-Con.ensures c.if-not-is_any_copied-3.false c.in_ok-origin-in-Con.ensures.path c.in_ok-origin-in-Con.ensures.name c.in_ok-args-in-Con.ensures
