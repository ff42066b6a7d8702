use Rattle.type_expressions.proofs.Untyped.{untyped_same, untyped_then, store_untyped, ok_any}
use Rattle.typing_state.proofs.Going.{goes_refl, goes_trans}
use Rattle.std.proofs.Common.{◌≡◌, ◌∙◌, [], Some, None, option_map, refl, sym, ap, subst}
use Rattle.std.proofs.lemmas.Result.{IfOk-weaker}
use Rattle.syntax_tree.specs.View.{node_view}
use Rattle.row_parts.specs.Numbered.{first_in, operand_view}
use Rattle.typing_rows.proofs.DeclaredOrdered.{store_reports}
use Rattle.typing_model.specs.BuiltIns.{exn_type}
use Rattle.type_nodes.specs.Nodes.{IsNode, Arrow}
use Rattle.type_nodes.specs.Changes.{Makes}
use Rattle.type_expressions.specs.Items.{names_of, nodes_of}
use Rattle.decl_typing.proofs.Denoting.{no_argument, some_argument}
use Rattle.decl_typing.proofs.Settling.{no_settles, some_settles}
use Rattle.decl_typing.proofs.Treating.{no_treats, some_treats}
use Rattle.decl_typing.proofs.decls.exception_root.Goals as goal

pub returns-in-None-clause-goes : goal.returns-in-None-clause-goes
returns-in-None-clause-goes c = goes_refl c.args.at.now

pub returns-in_err-from-in-Some-clause-goes : goal.returns-in_err-from-in-Some-clause-goes
returns-in_err-from-in-Some-clause-goes c = c.read_type.ensures.goes

pub returns-in_ok-from-in-Some-clause-goes : goal.returns-in_ok-from-in-Some-clause-goes
returns-in_ok-from-in-Some-clause-goes c = goes_trans c.args.at.now c.read_type.new.at c.arrow.new.self c.read_type.ensures.goes c.arrow.ensures.goes

pub returns-in-None-clause-settles : goal.returns-in-None-clause-settles
returns-in-None-clause-settles c =
    let t = node_view c.args.node.now in
    let none : first_in c.args.number t 2 ≡ None = sym c.first_operand.ensures ∙ ap (option_map operand_view) c.in-None.is in
    no_settles c.args.at.now c.args.at.now c.args.env.now [] refl c.args.number t none

pub returns-in_ok-from-in-Some-clause-settles : goal.returns-in_ok-from-in-Some-clause-settles
returns-in_ok-from-in-Some-clause-settles c =
    let t = node_view c.args.node.now in
    let o = operand_view c.in-Some.argument in
    let there : first_in c.args.number t 2 ≡ Some o = sym c.first_operand.ensures ∙ ap (option_map operand_view) c.in-Some.is in
    ok_any c.arrow.result _ (some_settles c.args.at.now c.read_type.new.at c.arrow.new.self c.args.env.now [] o (store_reports c.read_type.new.at c.arrow.new.self c.arrow.ensures.rest)
    (c.in_ok-from-in-Some.ensures.settles [] (ap names_of c.new.ensures.items)) c.args.number t there)

pub returns-in-None-clause-means : goal.returns-in-None-clause-means
returns-in-None-clause-means c =
    let none : first_in c.args.number (node_view c.args.node.now) 2 ≡ None = sym c.first_operand.ensures ∙ ap (option_map operand_view) c.in-None.is in
    no_argument c.args.at.now c.args.env.now [] [] c.args.number (node_view c.args.node.now) exn_type c.args.at.now.constants.exn.0 none

pub returns-in_ok-from-in-Some-clause-means : goal.returns-in_ok-from-in-Some-clause-means
returns-in_ok-from-in-Some-clause-means c =
    let o = operand_view c.in-Some.argument in
    let there : first_in c.args.number (node_view c.args.node.now) 2 ≡ Some o = sym c.first_operand.ensures ∙ ap (option_map operand_view) c.in-Some.is in
    IfOk-weaker c.arrow.result _ _ (λ m made. some_argument c.args.at.now c.read_type.new.at c.arrow.new.self c.args.env.now [] [] o c.args.number (node_view c.args.node.now) exn_type c.in_ok-from-in-Some.from.0 c.args.at.now.constants.exn.0 m.0 there
    (c.in_ok-from-in-Some.ensures.means [] [] (ap names_of c.new.ensures.items) (ap nodes_of c.new.ensures.items))
    (subst (λ k. IsNode c.read_type.new.at.store.nodes c.in_ok-from-in-Some.from.0 → IsNode c.read_type.new.at.store.nodes k.exn.0 → Makes c.read_type.new.at.store c.arrow.new.self.store m.0 (Arrow c.in_ok-from-in-Some.from.0 k.exn.0)) c.read_type.ensures.goes.constants made)
    c.arrow.ensures.rest c.arrow.ensures.goes) c.arrow.ensures.made

pub returns-in-None-clause-untyped : goal.returns-in-None-clause-untyped
returns-in-None-clause-untyped c = untyped_same c.args.at.now

pub returns-in_ok-from-in-Some-clause-untyped : goal.returns-in_ok-from-in-Some-clause-untyped
returns-in_ok-from-in-Some-clause-untyped c = ok_any c.arrow.result _ (untyped_then c.in_ok-from-in-Some.ensures.untyped (store_untyped c.read_type.new.at c.arrow.new.self c.arrow.ensures.rest))

pub returns-in-None-clause-treats : goal.returns-in-None-clause-treats
returns-in-None-clause-treats c =
    let none : first_in c.args.number (node_view c.args.node.now) 2 ≡ None = sym c.first_operand.ensures ∙ ap (option_map operand_view) c.in-None.is in
    no_treats c.args.at.now c.args.at.now c.args.env.now c.args.number (node_view c.args.node.now) none

pub returns-in_ok-from-in-Some-clause-treats : goal.returns-in_ok-from-in-Some-clause-treats
returns-in_ok-from-in-Some-clause-treats c =
    let o = operand_view c.in-Some.argument in
    let there : first_in c.args.number (node_view c.args.node.now) 2 ≡ Some o = sym c.first_operand.ensures ∙ ap (option_map operand_view) c.in-Some.is in
    ok_any c.arrow.result _ (some_treats c.args.at.now c.read_type.new.at c.arrow.new.self c.args.env.now o c.arrow.ensures.goes c.in_ok-from-in-Some.ensures.treats c.args.number (node_view c.args.node.now) there)
