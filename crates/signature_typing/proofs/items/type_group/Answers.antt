use Rattle.std.proofs.Common.{◌∙◌, map, ap, subst}
use denote.Ref.{Bor}
use Rattle.syntax_tree.specs.declared.Token.{Token}
use Rattle.syntax_tree.specs.View.{node_view}
use Rattle.typing_state.proofs.Going.{goes_trans}
use Rattle.decl_groups.specs.Written.{declaration_view}
use Rattle.signature_typing.specs.TypeItems.{names_written, AsksEach}
use Rattle.signature_typing.proofs.TypeItems.{type_group_given}
use Rattle.signature_typing.proofs.items.type_group.Goals as goal

pub returns-clause-carries : goal.returns-clause-carries
returns-clause-carries c =
    type_group_given c.add.result c.args.at.now c.note_plain.new.self c.ask_names.new.at c.type_decls.new.at c.args.scene.now c.ask_names.new.scene c.add_made.new.self c.add.new.self c.args.number (node_view c.args.node.now) c.in_ok-names.names.items c.in_ok-declared.declared
    c.in_ok-note_plain.ensures.noted c.note_plain.ensures.rest c.note_plain.ensures.goes
    (c.in_ok-names.ensures ∙ ap names_written (ap (map declaration_view) c.deref.ensures.value ∙ c.in_ok-parts.ensures))
    (subst (λ ts. AsksEach (map (λ (t : Bor Token). t.now) ts) c.args.scene.now c.ask_names.new.scene c.note_plain.new.self c.ask_names.new.at) c.deref-2.ensures.value c.in_ok-ask_names.ensures.asked)
    c.ask_names.ensures.scene c.ask_names.ensures.rest c.ask_names.ensures.goes
    c.in_ok-declared.ensures.own c.add_made.ensures.names c.add.ensures.env c.add.ensures.names

pub returns-clause-goes : goal.returns-clause-goes
returns-clause-goes c = goes_trans c.args.at.now c.ask_names.new.at c.type_decls.new.at (goes_trans c.args.at.now c.note_plain.new.self c.ask_names.new.at c.note_plain.ensures.goes c.ask_names.ensures.goes) c.type_decls.ensures.goes

pub returns-in_err-add_made-clause-goes : goal.returns-in_err-add_made-clause-goes
returns-in_err-add_made-clause-goes c = goes_trans c.args.at.now c.ask_names.new.at c.type_decls.new.at (goes_trans c.args.at.now c.note_plain.new.self c.ask_names.new.at c.note_plain.ensures.goes c.ask_names.ensures.goes) c.type_decls.ensures.goes

pub returns-in_err-declared-clause-goes : goal.returns-in_err-declared-clause-goes
returns-in_err-declared-clause-goes c = goes_trans c.args.at.now c.ask_names.new.at c.type_decls.new.at (goes_trans c.args.at.now c.note_plain.new.self c.ask_names.new.at c.note_plain.ensures.goes c.ask_names.ensures.goes) c.type_decls.ensures.goes

pub returns-in_err-ask_names-clause-goes : goal.returns-in_err-ask_names-clause-goes
returns-in_err-ask_names-clause-goes c = goes_trans c.args.at.now c.note_plain.new.self c.ask_names.new.at c.note_plain.ensures.goes c.ask_names.ensures.goes

pub returns-in_err-names-clause-goes : goal.returns-in_err-names-clause-goes
returns-in_err-names-clause-goes c = c.note_plain.ensures.goes

pub returns-in_err-parts-clause-goes : goal.returns-in_err-parts-clause-goes
returns-in_err-parts-clause-goes c = c.note_plain.ensures.goes

pub returns-in_err-note_plain-clause-goes : goal.returns-in_err-note_plain-clause-goes
returns-in_err-note_plain-clause-goes c = c.note_plain.ensures.goes
