use Rattle.std.proofs.Common.{◌≡◌, [], ◌∷◌, map, refl}
use Rattle.plain_model.specs.Plain as plain
use Rattle.tree_model.specs.Trees.{taken, inner}
use Rattle.syntax_tree.specs.Names.{row_of}
use Rattle.syntax_tree.specs.View.{child_view, tok_of}
use Rattle.plain_typing.proofs.build.item_over.Goals as goal

pub returns-in-Ok : goal.returns-in-Ok
unfolding row_of
returns-in-Ok c =
    let parts : map child_view c.in-Ok.children.items
    ≡ (0, taken (tok_of c.args.word.now))
    ∷ (2, inner (plain.binding (tok_of c.args.name.now) (tok_of c.args.sign.now) (tok_of c.args.value.now)))
    ∷ []
    = rw (c.in-Ok.ensures.items, c.in_ok-word.ensures, c.inner_child-bound.ensures, c.in_ok-binding.ensures) refl in
    rw parts at c.node_of.ensures
