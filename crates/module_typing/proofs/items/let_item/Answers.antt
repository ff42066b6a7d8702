use Rattle.std.proofs.Common.{refl}
use Rattle.syntax_tree.specs.View.{node_view}
use Rattle.typing_state.specs.declared.parts.Written.{Written}
use Rattle.core_typing.proofs.ItemLaws.{item_gives}
use Rattle.module_typing.proofs.ItemSteps.{let_grows}
use Rattle.module_typing.proofs.items.let_item.Goals as goal

pub returns-clause-carries : goal.returns-clause-carries
returns-clause-carries c =
    let w : Written = record { variables = c.clear.new.self } in
    item_gives c.add.result c.args.at.now c.note_plain.new.self _ c.type_bindings.new.at w c.args.scene.now.env c.in_ok-behind.behind.env _ c.args.number (node_view c.args.node.now)
    c.in_ok-note_plain.ensures.noted c.note_plain.ensures.rest c.note_plain.ensures.goes c.clear.ensures.empty refl c.in_ok-behind.ensures.carries c.in_ok-behind.ensures.named c.add.ensures.env

pub returns-clause-grows : goal.returns-clause-grows
returns-clause-grows c = let_grows c.add.result c.args.scene.now c.add.new.self c.in_ok-behind.behind.env c.in_ok-behind.behind.entries.items _ c.in_ok-behind.ensures.grows c.deref.ensures.value c.add.ensures.env c.add.ensures.components
