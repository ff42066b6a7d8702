use Rattle.std.proofs.Common.{◌≡◌, ◌∙◌, ◌==◌, false, List, [], ◌∷◌, ◌++◌, length, sym, ap, subst, append-nil}
use Rattle.std.specs.Prelude.{All}
use Rattle.std.proofs.lemmas.Bool.{eqb-true}
use Rattle.std.proofs.lemmas.List.{drop_all, map-append, nil_from_length}
use Rattle.std.proofs.lemmas.Result.{IfOk-weaker}
use Rattle.type_nodes.specs.Nodes.{IsNode, Tuple}
use Rattle.type_nodes.specs.Views.{numbers}
use Rattle.type_nodes.specs.Changes.{Makes}
use Rattle.env_table.specs.declared.NodeRef.{NodeRef}
use Rattle.typing_state.proofs.Going.{goes_refl}
use Rattle.type_reading.proofs.Filling.{store_same}
use Rattle.decl_typing.proofs.Parameters.{root_alone, root_tuple}
use Rattle.decl_typing.proofs.decls.declared_root.Goals as goal

-- a list that isn't empty has numbers
some : (ps : List NodeRef) → (length ps == 0) ≡ false → numbers ps ≡ [] → ⊥
some [] full e = absurd (cc)
some (p ∷ ps) full e = absurd (cc)

pub returns-clause-means : goal.returns-clause-means
returns-clause-means c =
    let at = c.args.at.now in
    let ps = c.args.parameters.now in
    let whole : c.loop-parameter.parts.items ≡ ps = sym (append-nil c.loop-parameter.parts.items) ∙ ap (λ left. c.loop-parameter.parts.items ++ left) (sym (drop_all c.loop-parameter.parameter-index ps c.loop-parameter-test.false)) ∙ c.loop-parameter.invariant in
    let given : numbers c.deref.result.now ≡ numbers ps ++ c.args.body.0 ∷ [] = ap numbers (c.deref.ensures.value ∙ c.in_ok-push-2.ensures.pushed ∙ ap (λ items. items ++ c.args.body ∷ []) whole) ∙ map-append (λ (n : NodeRef). n.0) ps (c.args.body ∷ []) in
    IfOk-weaker c.tuple.result _ _ (λ r makes.
    root_tuple at c.tuple.new.self (numbers ps) c.args.body.0 r.0 (some ps (sym c.is_empty.ensures ∙ c.if-is_empty.false)) (subst (λ ms. All (IsNode at.store.nodes) ms → Makes at.store c.tuple.new.self.store r.0 (Tuple ms)) given makes) c.tuple.ensures.rest)
    c.tuple.ensures.made

pub returns-clause-rest : goal.returns-clause-rest
returns-clause-rest c = c.tuple.ensures.rest

pub returns-clause-goes : goal.returns-clause-goes
returns-clause-goes c = c.tuple.ensures.goes

pub returns-in_err-push-clause-rest : goal.returns-in_err-push-clause-rest
returns-in_err-push-clause-rest c = store_same c.args.at.now

pub returns-in_err-push-clause-goes : goal.returns-in_err-push-clause-goes
returns-in_err-push-clause-goes c = goes_refl c.args.at.now

pub returns-in_err-push-2-clause-rest : goal.returns-in_err-push-2-clause-rest
returns-in_err-push-2-clause-rest c = store_same c.args.at.now

pub returns-in_err-push-2-clause-goes : goal.returns-in_err-push-2-clause-goes
returns-in_err-push-2-clause-goes c = goes_refl c.args.at.now

pub returns-then-is_empty-clause-means : goal.returns-then-is_empty-clause-means
returns-then-is_empty-clause-means c =
    root_alone c.args.at.now (numbers c.args.parameters.now) c.args.body.0 (ap numbers (nil_from_length c.args.parameters.now (eqb-true (length c.args.parameters.now) 0 (sym c.is_empty.ensures ∙ c.if-is_empty.true))))

pub returns-then-is_empty-clause-rest : goal.returns-then-is_empty-clause-rest
returns-then-is_empty-clause-rest c = store_same c.args.at.now

pub returns-then-is_empty-clause-goes : goal.returns-then-is_empty-clause-goes
returns-then-is_empty-clause-goes c = goes_refl c.args.at.now
