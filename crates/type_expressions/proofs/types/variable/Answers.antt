use Rattle.type_expressions.proofs.Untyped.{untyped_same, untyped_then, store_untyped, faults_untyped, ok_any}
use Rattle.std.proofs.Common.{◌≡◌, ◌∙◌, Some, None, option_map, refl, sym, subst}
use Rattle.std.proofs.lemmas.Result.{IfOk-weaker}
use Rattle.syntax_tree.specs.View.{tok_of}
use Rattle.typing_model.specs.TypeExpressions.{index_from}
use Rattle.typing_rows.specs.Operands.{ReadsVariable}
use Rattle.type_expressions.proofs.Answering.{if_any}
use Rattle.type_expressions.proofs.Carrying.{missing_variable}
use Rattle.type_expressions.proofs.Settling as settled
use Rattle.typing_rows.specs.DeclaredOperands.{SettlesVariable}
use Rattle.typing_rows.proofs.DeclaredOrdered.{silent_reports}
use Rattle.typing_rows.proofs.DeclaredComposed.{variable_known, variable_unbound}
use Rattle.type_expressions.proofs.Settling.{number_known, number_none}
use Rattle.type_expressions.specs.Items.{IsOver, names_of, parameter_in}
use Rattle.std.specs.Prelude.{slice_get}
use Rattle.declared_rows.specs.Operands.{DenotesVariable}
use Rattle.declared_rows.proofs.Ends.{variable_denotes, variable_unknown}
use Rattle.type_expressions.specs.Items.{HasNodes, nodes_of}
use Rattle.type_expressions.proofs.Denoting as denoted
use Rattle.type_expressions.proofs.Denoting.{parameter_numbered}
use Rattle.type_expressions.proofs.types.variable.Goals as goal

pub returns-in_default-clause-carries : goal.returns-in_default-clause-carries
returns-in_default-clause-carries c =
    IfOk-weaker c.unresolved.result _ _ (λ m any item.
    subst (λ o. ReadsVariable c.args.at.now c.unresolved.new.at (option_map (λ t. tok_of t.now) o) m.0) (sym c.in_default.is) (missing_variable c.args.at.now c.unresolved.new.at m.0 (any item) c.unresolved.ensures.rest)) c.unresolved.ensures.any

pub returns-in-OfItem-clause-carries : goal.returns-in-OfItem-clause-carries
returns-in-OfItem-clause-carries c =
    IfOk-weaker c.written_variable.result _ _ (λ m reads item. subst (λ o. ReadsVariable c.args.at.now c.written_variable.new.at (option_map (λ t. tok_of t.now) o) m.0) (sym c.in-Some.is) reads) c.written_variable.ensures.carries

pub returns-in_default-clause-settles : goal.returns-in_default-clause-settles
returns-in_default-clause-settles c =
    if_any c.unresolved.result _ (λ m names over.
    subst (λ o. SettlesVariable c.args.at.now c.unresolved.new.at names (option_map (λ t. tok_of t.now) o)) (sym c.in_default.is) (settled.missing_variable c.args.at.now c.unresolved.new.at names c.unresolved.ensures.silent))

pub returns-in-OfItem-clause-settles : goal.returns-in-OfItem-clause-settles
returns-in-OfItem-clause-settles c = if_any c.written_variable.result _ (λ m names over. absurd (subst (λ v. IsOver v names) c.in-OfItem.is over))

pub returns-in-Some-parameter_named-clause-settles : goal.returns-in-Some-parameter_named-clause-settles
returns-in-Some-parameter_named-clause-settles c = λ names over.
    let t = tok_of c.in-Some.name.now in
    let ps = c.in-Parameters.parameters.items in
    let are : names_of ps ≡ names = subst (λ v. IsOver v names) c.in-Parameters.is over in
    let found : parameter_in t.name ps ≡ Some c.in-Some-parameter_named.node = sym (c.parameter_named.ensures ∙ (λ i. parameter_in (c.as_str.ensures i) (c.deref.ensures.value i))) ∙ c.in-Some-parameter_named.is in
    let (k, number) = number_known t.name ps c.in-Some-parameter_named.node found in
    subst (λ o. SettlesVariable c.args.at.now c.args.at.now names (option_map (λ t. tok_of t.now) o)) (sym c.in-Some.is)
    (λ env n at. variable_known c.args.at.now env names n t k (subst (λ ns. index_from 0 t.name ns ≡ Some k) are number))

pub returns-in_ok-unbound-in-None-clause-settles : goal.returns-in_ok-unbound-in-None-clause-settles
returns-in_ok-unbound-in-None-clause-settles c =
    let t = tok_of c.in-Some.name.now in
    let ps = c.in-Parameters.parameters.items in
    let missing : parameter_in t.name ps ≡ None = sym (c.parameter_named.ensures ∙ (λ i. parameter_in (c.as_str.ensures i) (c.deref.ensures.value i))) ∙ c.in-None.is in
    if_any c.unresolved-in-None.result _ (λ m names over.
    let are : names_of ps ≡ names = subst (λ v. IsOver v names) c.in-Parameters.is over in
    subst (λ o. SettlesVariable c.args.at.now c.unresolved-in-None.new.at names (option_map (λ t. tok_of t.now) o)) (sym c.in-Some.is)
    (λ env n at. variable_unbound c.args.at.now c.unbound.new.self c.unresolved-in-None.new.at env names n t c.in-Some.name.now.span refl (subst (λ ns. index_from 0 t.name ns ≡ None) are (number_none t.name ps missing)) c.as_str-in-None.ensures c.in_ok-unbound-in-None.ensures.told
    (silent_reports c.unbound.new.self c.unresolved-in-None.new.at c.unresolved-in-None.ensures.silent)))

pub returns-in_default-clause-means : goal.returns-in_default-clause-means
returns-in_default-clause-means c =
    IfOk-weaker c.unresolved.result _ _ (λ m unknown names ps over nodes.
    subst (λ o. DenotesVariable c.args.at.now c.unresolved.new.at names ps (option_map (λ t. tok_of t.now) o) m.0) (sym c.in_default.is) (denoted.missing_variable c.args.at.now c.unresolved.new.at names ps m.0 (unknown names over))) c.unresolved.ensures.unknown

pub returns-in-OfItem-clause-means : goal.returns-in-OfItem-clause-means
returns-in-OfItem-clause-means c = if_any c.written_variable.result _ (λ m names ps over nodes. absurd (subst (λ v. IsOver v names) c.in-OfItem.is over))

pub returns-in-Some-parameter_named-clause-means : goal.returns-in-Some-parameter_named-clause-means
returns-in-Some-parameter_named-clause-means c = λ names ps over nodes.
    let t = tok_of c.in-Some.name.now in
    let qs = c.in-Parameters.parameters.items in
    let are : names_of qs ≡ names = subst (λ v. IsOver v names) c.in-Parameters.is over in
    let have : nodes_of qs ≡ ps = subst (λ v. HasNodes v ps) c.in-Parameters.is nodes in
    let found : parameter_in t.name qs ≡ Some c.in-Some-parameter_named.node = sym (c.parameter_named.ensures ∙ (λ i. parameter_in (c.as_str.ensures i) (c.deref.ensures.value i))) ∙ c.in-Some-parameter_named.is in
    let x = parameter_numbered t.name qs c.in-Some-parameter_named.node found in
    subst (λ o. DenotesVariable c.args.at.now c.args.at.now names ps (option_map (λ t. tok_of t.now) o) c.in-Some-parameter_named.node.0) (sym c.in-Some.is)
    (λ env n at. variable_denotes c.args.at.now env names ps n t x.number c.in-Some-parameter_named.node.0 (subst (λ ns. index_from 0 t.name ns ≡ Some x.number) are x.found) (subst (λ ms. slice_get ms x.number ≡ Some c.in-Some-parameter_named.node.0) have x.there))

pub returns-in_ok-unbound-in-None-clause-means : goal.returns-in_ok-unbound-in-None-clause-means
returns-in_ok-unbound-in-None-clause-means c =
    let t = tok_of c.in-Some.name.now in
    let qs = c.in-Parameters.parameters.items in
    let missing : parameter_in t.name qs ≡ None = sym (c.parameter_named.ensures ∙ (λ i. parameter_in (c.as_str.ensures i) (c.deref.ensures.value i))) ∙ c.in-None.is in
    IfOk-weaker c.unresolved-in-None.result _ _ (λ m unknown names ps over nodes.
    let are : names_of qs ≡ names = subst (λ v. IsOver v names) c.in-Parameters.is over in
    subst (λ o. DenotesVariable c.args.at.now c.unresolved-in-None.new.at names ps (option_map (λ t. tok_of t.now) o) m.0) (sym c.in-Some.is)
    (λ env n at. variable_unknown c.args.at.now c.unbound.new.self c.unresolved-in-None.new.at env names ps n t c.in-Some.name.now.span m.0 refl (subst (λ ns. index_from 0 t.name ns ≡ None) are (number_none t.name qs missing)) c.as_str-in-None.ensures c.in_ok-unbound-in-None.ensures.told
    c.unbound.ensures.rest (unknown names over))) c.unresolved-in-None.ensures.unknown

pub returns-in_default-clause-untyped : goal.returns-in_default-clause-untyped
returns-in_default-clause-untyped c = ok_any c.unresolved.result _ (store_untyped c.args.at.now c.unresolved.new.at c.unresolved.ensures.rest)

pub returns-in-OfItem-clause-untyped : goal.returns-in-OfItem-clause-untyped
returns-in-OfItem-clause-untyped c = c.written_variable.ensures.untyped

pub returns-in-Some-parameter_named-clause-untyped : goal.returns-in-Some-parameter_named-clause-untyped
returns-in-Some-parameter_named-clause-untyped c = untyped_same c.args.at.now

pub returns-in_ok-unbound-in-None-clause-untyped : goal.returns-in_ok-unbound-in-None-clause-untyped
returns-in_ok-unbound-in-None-clause-untyped c = ok_any c.unresolved-in-None.result _ (untyped_then (faults_untyped c.args.at.now c.unbound.new.self c.unbound.ensures.rest) (store_untyped c.unbound.new.self c.unresolved-in-None.new.at c.unresolved-in-None.ensures.rest))
