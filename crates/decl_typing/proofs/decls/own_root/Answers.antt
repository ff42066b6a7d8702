use Rattle.std.proofs.Common.{◌≡◌, ◌∙◌, [], ◌∷◌, length, sym, ap, subst}
use Rattle.std.proofs.lemmas.List.{length-map}
use denote.Ref.{Bor}
use Rattle.text_terms.specs.Bytes.{str_bytes}
use Rattle.syntax_tree.specs.declared.tree.Token.{Token}
use Rattle.type_expressions.specs.Items.{names_of, nodes_of}
use Rattle.type_expressions.specs.declared.types.Parameter.{Parameter}
use Rattle.operand_laws.specs.Operands.{number_of}
use Rattle.type_reading.proofs.Filling.{store_then}
use Rattle.decl_typing.specs.Parameters.{token_names, MakesOwn}
use Rattle.decl_typing.proofs.Owned.{own_root_made}
use Rattle.type_expressions.proofs.Untyped.{untyped_then, store_untyped}
use Rattle.typing_state.proofs.Going.{goes_trans}
use Rattle.decl_typing.proofs.decls.own_root.Goals as goal

pub returns-clause-goes : goal.returns-clause-goes
returns-clause-goes c = goes_trans c.args.at.now c.new_parameters.new.at c.own_type.new.at c.new_parameters.ensures.goes c.own_type.ensures.goes

pub returns-in_err-parameters-clause-goes : goal.returns-in_err-parameters-clause-goes
returns-in_err-parameters-clause-goes c = c.new_parameters.ensures.goes

pub returns-in_err-root-clause-goes : goal.returns-in_err-root-clause-goes
returns-in_err-root-clause-goes c = goes_trans c.args.at.now c.new_parameters.new.at c.own_type.new.at c.new_parameters.ensures.goes c.own_type.ensures.goes

pub returns-clause-untyped : goal.returns-clause-untyped
returns-clause-untyped c = untyped_then (store_untyped c.args.at.now c.new_parameters.new.at c.new_parameters.ensures.rest) (store_untyped c.new_parameters.new.at c.own_type.new.at c.own_type.ensures.rest)

pub returns-clause-rest : goal.returns-clause-rest
returns-clause-rest c = store_then c.new_parameters.ensures.rest c.own_type.ensures.rest

pub returns-in_err-parameters-clause-rest : goal.returns-in_err-parameters-clause-rest
returns-in_err-parameters-clause-rest c = c.new_parameters.ensures.rest

pub returns-in_err-root-clause-rest : goal.returns-in_err-root-clause-rest
returns-in_err-root-clause-rest c = store_then c.new_parameters.ensures.rest c.own_type.ensures.rest

pub returns-clause-means : goal.returns-clause-means
returns-clause-means c =
    let b = c.new_parameters.new.at in
    let d = c.own_type.new.at in
    let part = c.args.part.now in
    let items = c.in_ok-parameters.parameters.items in
    let ps = nodes_of items in
    let named : names_of items ≡ token_names part.parameters.items = c.in_ok-parameters.ensures.named ∙ ap token_names c.deref.ensures.value in
    let many : length ps ≡ length part.parameters.items = length-map items (λ (p : Parameter). p.node.0) ∙ sym (length-map items (λ (p : Parameter). str_bytes p.name)) ∙ ap length named ∙ length-map part.parameters.items (λ (t : Bor Token). str_bytes t.now.name) in
    own_root_made c.args.at.now b d part ps c.in_ok-root.root.0 c.in_ok-root.field-0-1.0 many c.in_ok-parameters.ensures.means c.new_parameters.ensures.goes
    (subst (λ xs. MakesOwn b d (nodes_of xs) (number_of b.item part.number ∷ []) c.in_ok-root.root.0 c.in_ok-root.field-0-1.0) c.deref-2.ensures.value c.in_ok-root.ensures.means)
