use Rattle.std.proofs.Common.{◌∙◌, ◌∷◌, ◌++◌, option_map, refl, sym, ap, subst}
use Rattle.std.proofs.lemmas.Result.{on_ok_weaker}
use Rattle.syntax_tree.specs.View.{node_view, tok_of}
use Rattle.type_expressions.proofs.Untyped.{untyped_then, ok_any}
use Rattle.typing_state.proofs.Going.{goes_trans}
use Rattle.signature_typing.proofs.Values.{enters_none, enters_one}
use Rattle.signature_typing.proofs.ValueItems.{value_nameless, value_carries}
use Rattle.sig_template.specs.Structures.{entries_of}
use Rattle.signature_typing.specs.ValueSignatures.{AddsIf}
use Rattle.signature_typing.proofs.ValueSteps.{adds_newest}
use Rattle.signature_typing.proofs.items.value_item.Goals as goal

pub returns-clause-goes : goal.returns-clause-goes
returns-clause-goes c = goes_trans c.args.at.now c.specified_scheme.new.at c.note_value.new.at c.specified_scheme.ensures.goes c.note_value.ensures.goes

pub returns-in_default-clause-goes : goal.returns-in_default-clause-goes
returns-in_default-clause-goes c = goes_trans c.args.at.now c.specified_scheme.new.at c.note_plain.new.self c.specified_scheme.ensures.goes c.note_plain.ensures.goes

pub returns-in_default-clause-means : goal.returns-in_default-clause-means
returns-in_default-clause-means c = ok_any c.note_plain.result _
    (enters_none c.args.at.now c.specified_scheme.new.at c.note_plain.new.self c.args.scene.now.env c.args.number (node_view c.args.node.now) c.in_ok-root.root.0 c.note_plain.ensures.rest c.note_plain.ensures.goes c.in_ok-root.ensures.means (sym c.token.ensures ∙ ap (option_map (λ t. tok_of t.now)) c.in_default.is))

pub returns-clause-means : goal.returns-clause-means
returns-clause-means c =
    let env = c.args.scene.now.env in
    let named = sym (sym (ap (option_map (λ t. tok_of t.now)) c.in-Some.is) ∙ c.token.ensures) in
    on_ok_weaker c.add-2.result (λ e. enters_one c.args.at.now c.specified_scheme.new.at c.note_value.new.at env c.add-2.new.self.env c.args.number (node_view c.args.node.now) c.in_ok-root.root.0 (tok_of c.in-Some.name.now) c.in_ok-entry.entry.value
    c.note_value.ensures.rest c.note_value.ensures.goes c.in_ok-root.ensures.means named c.in_ok-entry.ensures (e ∙ c.in_ok-env.ensures ∙ ap (λ x. x ∷ env) c.in_ok-share_entry.ensures)) c.add-2.ensures.env

pub returns-clause-untyped : goal.returns-clause-untyped
returns-clause-untyped c = ok_any c.add-2.result _ (untyped_then c.in_ok-root.ensures.untyped c.in_ok-note_value.ensures.untyped)

pub returns-in_default-clause-carries : goal.returns-in_default-clause-carries
returns-in_default-clause-carries c = ok_any c.note_plain.result _
    (value_nameless c.args.at.now c.note_plain.new.self c.args.scene.now.env c.args.scene.now.env c.args.number (node_view c.args.node.now) (sym c.token.ensures ∙ ap (option_map (λ t. tok_of t.now)) c.in_default.is))

pub returns-clause-carries : goal.returns-clause-carries
returns-clause-carries c = on_ok_weaker c.add-2.result
    (λ s. value_carries c.args.at.now c.note_value.new.at c.args.scene.now.env c.add-2.new.self.env c.args.number (node_view c.args.node.now) s (untyped_then c.in_ok-root.ensures.untyped c.in_ok-note_value.ensures.untyped) (returns-clause-goes c)) (returns-clause-means c)

pub returns-in_default-clause-adds : goal.returns-in_default-clause-adds
returns-in_default-clause-adds c = ok_any c.note_plain.result _
    (subst (λ o. AddsIf o c.args.scene.now c.args.scene.now) (sym (sym c.token.ensures ∙ ap (option_map (λ t. tok_of t.now)) c.in_default.is)) refl)

pub returns-clause-adds : goal.returns-clause-adds
returns-clause-adds c =
    let scene = c.args.scene.now in
    let named = sym (sym (ap (option_map (λ t. tok_of t.now)) c.in-Some.is) ∙ c.token.ensures) in
    adds_newest c.add-2.result scene c.add-2.new.self (node_view c.args.node.now) (tok_of c.in-Some.name.now) c.in_ok-entry.entry.value named
    (on_ok_weaker c.add-2.result (λ e. e ∙ c.in_ok-env.ensures ∙ ap (λ x. x ∷ scene.env) c.in_ok-share_entry.ensures) c.add-2.ensures.env)
    (on_ok_weaker c.add-2.result (λ e. e ∙ ap (λ es. entries_of scene.components.items ++ entries_of es) (c.deref.ensures.value ∙ c.in_ok-entries.ensures.items)) c.add-2.ensures.components) c.add-2.ensures.makes
