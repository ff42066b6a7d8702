use Rattle.std.proofs.Common.{◌≡◌, ◌∙◌, map, sym, ap, subst}
use Rattle.tree_model.specs.Trees.{yield_of}
use Rattle.syntax_tree.specs.View.{node_view}
use Rattle.type_nodes.specs.Nodes.{bound_level}
use Rattle.typing_state.proofs.Going.{goes_trans}
use Rattle.operand_laws.specs.Operands.{number_of}
use Rattle.binding_rows.specs.CaseScopes.{names_added}
use Rattle.binding_rows.specs.Lets.{bind_nodes, names_closed}
use Rattle.binding_rows.specs.LetNodes.{ClosesBindings}
use Rattle.binding_rows.specs.Scopes.{InsideNodes}
use Rattle.binding_rows.specs.ItemRows.{AreWrittenIn}
use Rattle.use_typing.proofs.Reading.{on_ok}
use Rattle.binding_steps.specs.Bindings.{closing_of}
use Rattle.binding_steps.proofs.ClosingLaws.{written_kept}
use Rattle.core_typing.proofs.LetLaws.{held_both, item_let}
use Rattle.core_typing.proofs.bindings.type_bindings.Goals as goal

pub returns-clause-carries : goal.returns-clause-carries
returns-clause-carries c =
    let bs = c.in_ok-bound.bound.items in
    let here : c.type_group.new.at.item ≡ c.args.at.now.item = c.type_group.ensures.goes.item ∙ c.raise.ensures.goes.item in
    let scope : c.node_number-scope.result ≡ number_of c.args.at.now.item c.args.number = c.node_number-scope.ensures ∙ ap (λ i. number_of i c.args.number) here in
    let inside : InsideNodes c.type_group.new.at c.limit_names.new.at bound_level (number_of c.args.at.now.item c.args.number) (bind_nodes (names_closed (map closing_of bs))) =
    subst (λ s. InsideNodes c.type_group.new.at c.limit_names.new.at bound_level s (bind_nodes (names_closed (map closing_of bs)))) scope
    (subst (λ xs. InsideNodes c.type_group.new.at c.limit_names.new.at bound_level c.node_number-scope.result (bind_nodes (names_closed (map closing_of xs)))) c.deref.ensures.value c.in_ok-limit_names.ensures.inside) in
    held_both c.close.result _ _ (λ closes e names.
    item_let c.args.at.now c.raise.new.at c.type_group.new.at c.limit_names.new.at c.close.new.at c.args.env.now e.env c.args.number (node_view c.args.item.now) bs c.in_ok-raise.ensures.raised.0 c.raise.ensures.goes c.in_ok-bound.ensures.carries c.in_ok-bound.ensures.general
    c.type_group.ensures.goes inside c.limit_names.ensures.goes (subst (λ xs. ClosesBindings c.limit_names.new.at c.close.new.at (map closing_of xs)) c.deref-2.ensures.value closes) c.close.ensures.goes
    (names ∙ ap (λ xs. names_added (names_closed (map closing_of xs)) c.args.env.now) c.deref-2.ensures.value)) c.close.ensures.carries c.close.ensures.names

pub returns-clause-named : goal.returns-clause-named
returns-clause-named c =
    on_ok c.close.result (λ closes.
    subst (AreWrittenIn (yield_of (node_view c.args.item.now))) (sym (written_kept c.type_group.new.at c.limit_names.new.at c.close.new.at bound_level _ _ _ c.in_ok-limit_names.ensures.inside closes)) c.in_ok-has_own_variables.ensures) c.close.ensures.carries

pub returns-in_err-bound-clause-goes : goal.returns-in_err-bound-clause-goes
returns-in_err-bound-clause-goes c = goes_trans c.args.at.now c.raise.new.at c.type_group.new.at c.raise.ensures.goes c.type_group.ensures.goes

pub returns-in_err-has_own_variables-clause-goes : goal.returns-in_err-has_own_variables-clause-goes
returns-in_err-has_own_variables-clause-goes c = goes_trans c.args.at.now c.raise.new.at c.type_group.new.at c.raise.ensures.goes c.type_group.ensures.goes

pub returns-in_err-limit_names-clause-goes : goal.returns-in_err-limit_names-clause-goes
returns-in_err-limit_names-clause-goes c =
    goes_trans c.args.at.now c.type_group.new.at c.limit_names.new.at (goes_trans c.args.at.now c.raise.new.at c.type_group.new.at c.raise.ensures.goes c.type_group.ensures.goes) c.limit_names.ensures.goes

pub returns-clause-goes : goal.returns-clause-goes
returns-clause-goes c =
    let limited = goes_trans c.args.at.now c.type_group.new.at c.limit_names.new.at (goes_trans c.args.at.now c.raise.new.at c.type_group.new.at c.raise.ensures.goes c.type_group.ensures.goes) c.limit_names.ensures.goes in
    goes_trans c.args.at.now c.limit_names.new.at c.close.new.at limited c.close.ensures.goes

pub returns-clause-grows : goal.returns-clause-grows
returns-clause-grows c = c.close.ensures.grows
