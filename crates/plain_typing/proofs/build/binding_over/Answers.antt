use Rattle.std.proofs.Common.{◌≡◌, [], ◌∷◌, map, refl}
use Rattle.plain_model.specs.Plain as plain
use Rattle.tree_model.specs.Rows.{pname_row}
use Rattle.tree_model.specs.Trees.{taken}
use Rattle.syntax_tree.specs.Names.{row_of}
use Rattle.syntax_tree.specs.View.{child_view, tok_of}
use Rattle.plain_typing.proofs.build.binding_over.Goals as goal

pub returns-in-Ok : goal.returns-in-Ok
unfolding row_of
returns-in-Ok c =
    let parts : map child_view c.in-Ok.children.items
    ≡ (0, plain.leaf pname_row (tok_of c.args.name.now))
    ∷ (4, taken (tok_of c.args.sign.now))
    ∷ (5, plain.leaf (plain.value_row (tok_of c.args.value.now)) (tok_of c.args.value.now))
    ∷ []
    = rw (c.in-Ok.ensures.items, c.in_ok-pattern.ensures, c.in_ok-sign.ensures, c.in_ok-right.ensures, c.value_row.ensures) refl in
    rw parts at c.node_of.ensures
