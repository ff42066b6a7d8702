use Rattle.std.proofs.Common.{◌≡◌, ◌∙◌, [], ◌∷◌, ap, subst}
use Rattle.std.specs.Prelude.{All}
use Rattle.text_terms.specs.Bytes.{str_bytes}
use Rattle.type_nodes.specs.Nodes.{IsNode, Con}
use Rattle.type_nodes.specs.Views.{numbers}
use Rattle.type_nodes.specs.Changes.{Makes}
use Rattle.type_expressions.specs.Items.{nodes_of}
use Rattle.operand_laws.specs.Operands.{number_of}
use Rattle.typing_state.proofs.Going.{goes_trans, goes_refl}
use Rattle.decl_typing.specs.Parameters.{MakesDeclared}
use Rattle.type_reading.proofs.Filling.{store_same, store_then}
use Rattle.decl_typing.proofs.Parameters.{own_made}
use Rattle.decl_typing.proofs.decls.own_type.Goals as goal

pub returns-clause-means : goal.returns-clause-means
returns-clause-means c =
    let at = c.args.at.now in
    let made = c.con.new.self in
    let after = c.declared_root.new.at in
    let ps = nodes_of c.args.parameters.now in
    let n = number_of at.item c.args.part.now.number in
    let name = str_bytes c.in_ok-origin.origin.name in
    let body = c.in_ok-body.body.0 in
    let root = c.in_ok-root.root.0 in
    let path : c.in_ok-origin.origin.path.items ≡ n ∷ [] = c.in_ok-origin.ensures.path in
    let given : numbers c.deref.result.now ≡ ps = ap numbers c.deref.ensures.value ∙ c.in_ok-nodes.ensures in
    let given' : numbers c.deref-2.result.now ≡ ps = ap numbers c.deref-2.ensures.value ∙ c.in_ok-nodes.ensures in
    own_made at made after ps (n ∷ []) name root body
    (subst (λ p. All (IsNode at.store.nodes) ps → Makes at.store made.store body (Con p name ps)) path (subst (λ ms. All (IsNode at.store.nodes) ms → Makes at.store made.store body (Con c.in_ok-origin.origin.path.items name ms)) given c.in_ok-body.ensures.made))
    c.con.ensures.rest
    (subst (λ ms. MakesDeclared made after ms body root) given' c.in_ok-root.ensures.means)

pub returns-clause-rest : goal.returns-clause-rest
returns-clause-rest c = store_then c.con.ensures.rest c.declared_root.ensures.rest

pub returns-clause-goes : goal.returns-clause-goes
returns-clause-goes c = goes_trans c.args.at.now c.con.new.self c.declared_root.new.at c.con.ensures.goes c.declared_root.ensures.goes

pub returns-in_err-body-clause-rest : goal.returns-in_err-body-clause-rest
returns-in_err-body-clause-rest c = c.con.ensures.rest

pub returns-in_err-body-clause-goes : goal.returns-in_err-body-clause-goes
returns-in_err-body-clause-goes c = c.con.ensures.goes

pub returns-in_err-nodes-clause-rest : goal.returns-in_err-nodes-clause-rest
returns-in_err-nodes-clause-rest c = store_same c.args.at.now

pub returns-in_err-nodes-clause-goes : goal.returns-in_err-nodes-clause-goes
returns-in_err-nodes-clause-goes c = goes_refl c.args.at.now

pub returns-in_err-origin-clause-rest : goal.returns-in_err-origin-clause-rest
returns-in_err-origin-clause-rest c = store_same c.args.at.now

pub returns-in_err-origin-clause-goes : goal.returns-in_err-origin-clause-goes
returns-in_err-origin-clause-goes c = goes_refl c.args.at.now

pub returns-in_err-root-clause-rest : goal.returns-in_err-root-clause-rest
returns-in_err-root-clause-rest c = store_then c.con.ensures.rest c.declared_root.ensures.rest

pub returns-in_err-root-clause-goes : goal.returns-in_err-root-clause-goes
returns-in_err-root-clause-goes c = goes_trans c.args.at.now c.con.new.self c.declared_root.new.at c.con.ensures.goes c.declared_root.ensures.goes
