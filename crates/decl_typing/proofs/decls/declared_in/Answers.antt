use Rattle.type_expressions.proofs.Untyped.{untyped_then, store_untyped}
use Rattle.typing_state.proofs.Going.{goes_trans}
use Rattle.std.proofs.Common.{◌≡◌, ◌∙◌, [], ◌∷◌, length, refl, sym, ap, subst}
use Rattle.std.proofs.lemmas.List.{length-map}
use denote.Ref.{Bor}
use Rattle.text_terms.specs.Bytes.{str_bytes}
use Rattle.syntax_tree.specs.declared.tree.Token.{Token}
use Rattle.type_expressions.specs.Items.{names_of, nodes_of}
use Rattle.type_expressions.specs.declared.types.Parameter.{Parameter}
use Rattle.operand_laws.specs.Operands.{number_of}
use Rattle.decl_typing.specs.Parameters.{token_names, MakesOwn}
use Rattle.decl_typing.proofs.Owned.{type_made}
use Rattle.decl_typing.proofs.decls.declared_in.Goals as goal

pub returns-clause-goes : goal.returns-clause-goes
returns-clause-goes c = goes_trans c.args.at.now c.right_side.new.at c.read_told.new.at (goes_trans c.args.at.now c.own_type.new.at c.right_side.new.at (goes_trans c.args.at.now c.new_parameters.new.at c.own_type.new.at c.new_parameters.ensures.goes c.own_type.ensures.goes) c.right_side.ensures.goes) c.read_told.ensures.goes

pub returns-in_err-nodes-clause-goes : goal.returns-in_err-nodes-clause-goes
returns-in_err-nodes-clause-goes c = c.new_parameters.ensures.goes

pub returns-in_err-own-clause-goes : goal.returns-in_err-own-clause-goes
returns-in_err-own-clause-goes c = goes_trans c.args.at.now c.new_parameters.new.at c.own_type.new.at c.new_parameters.ensures.goes c.own_type.ensures.goes

pub returns-in_err-parameters-clause-goes : goal.returns-in_err-parameters-clause-goes
returns-in_err-parameters-clause-goes c = c.new_parameters.ensures.goes

pub returns-in_err-root-clause-goes : goal.returns-in_err-root-clause-goes
returns-in_err-root-clause-goes c = goes_trans c.args.at.now c.own_type.new.at c.right_side.new.at (goes_trans c.args.at.now c.new_parameters.new.at c.own_type.new.at c.new_parameters.ensures.goes c.own_type.ensures.goes) c.right_side.ensures.goes

pub returns-in_err-shape-clause-goes : goal.returns-in_err-shape-clause-goes
returns-in_err-shape-clause-goes c = goes_trans c.args.at.now c.right_side.new.at c.read_told.new.at (goes_trans c.args.at.now c.own_type.new.at c.right_side.new.at (goes_trans c.args.at.now c.new_parameters.new.at c.own_type.new.at c.new_parameters.ensures.goes c.own_type.ensures.goes) c.right_side.ensures.goes) c.read_told.ensures.goes

pub returns-clause-means : goal.returns-clause-means
returns-clause-means c = λ right.
    let b = c.new_parameters.new.at in
    let d = c.own_type.new.at in
    let part = c.args.part.now in
    let items = c.in_ok-parameters.parameters.items in
    let ps = nodes_of items in
    let root = c.in_ok-root.root.0 in
    let body = c.in_ok-root.body.0 in
    let named : names_of items ≡ token_names part.parameters.items = c.in_ok-parameters.ensures.named ∙ ap token_names c.deref.ensures.value in
    let many : length ps ≡ length part.parameters.items = length-map items (λ (p : Parameter). p.node.0) ∙ sym (length-map items (λ (p : Parameter). str_bytes p.name)) ∙ ap length named ∙ length-map part.parameters.items (λ (t : Bor Token). str_bytes t.now.name) in
    let side = c.in_ok-root.ensures.own right in
    let makes : MakesOwn b d ps (number_of b.item part.number ∷ []) root body =
    subst (λ x. MakesOwn b d ps (number_of b.item part.number ∷ []) x.0.0 x.1.0) (sym side.0) (subst (λ xs. MakesOwn b d (nodes_of xs) (number_of b.item part.number ∷ []) c.in_ok-own.own.0.0 c.in_ok-own.own.1.0) c.deref-3.ensures.value c.in_ok-own.ensures.means) in
    type_made c.args.at.now b d c.right_side.new.at c.read_told.new.at c.args.inner.now part ps root body c.in_ok-shape.shape many c.in_ok-parameters.ensures.means c.new_parameters.ensures.rest c.new_parameters.ensures.goes makes c.own_type.ensures.rest c.own_type.ensures.goes side.1
    c.right_side.ensures.goes (λ t. c.in_ok-shape.ensures.means (token_names part.parameters.items) ps t named refl) right

pub returns-clause-untyped : goal.returns-clause-untyped
returns-clause-untyped c = untyped_then (untyped_then (untyped_then (store_untyped c.args.at.now c.new_parameters.new.at c.new_parameters.ensures.rest) (store_untyped c.new_parameters.new.at c.own_type.new.at c.own_type.ensures.rest)) c.in_ok-root.ensures.untyped) c.in_ok-shape.ensures.untyped
