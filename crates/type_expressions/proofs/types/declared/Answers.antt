use Rattle.type_expressions.proofs.Untyped.{untyped_then, store_untyped, faults_untyped, ok_any, ok_then}
use Rattle.std.proofs.Common.{◌≡◌, ◌∙◌, length, option_map, refl, sym, ap, subst}
use Rattle.std.proofs.lemmas.Result.{IfOk-weaker}
use Rattle.syntax_tree.specs.View.{tok_of}
use Rattle.type_nodes.specs.Views.{numbers}
use Rattle.typing_state.specs.declared.demands.Verdict.TheVariants.{Kept, Reported}
use Rattle.typing_state.specs.Demands.{ArityIs}
use Rattle.typing_rows.specs.Declaring.{declared_in}
use Rattle.typing_rows.proofs.Named.{declared_kept, declared_reported}
use Rattle.type_expressions.specs.Items.{IsOver}
use Rattle.type_expressions.proofs.Answering.{if_any, many_numbers}
use Rattle.typing_rows.specs.DeclaredContracts.{SettlesDeclared}
use Rattle.typing_rows.proofs.DeclaredOrdered.{silent_reports}
use Rattle.typing_rows.proofs.DeclaredNamed as settled
use Rattle.declared_rows.specs.Contracts.{DenotesDeclared}
use Rattle.declared_rows.proofs.Named as denoted
use Rattle.type_expressions.proofs.types.declared.Goals as goal

pub returns-in-Reported-clause-carries : goal.returns-in-Reported-clause-carries
returns-in-Reported-clause-carries c =
    let t = tok_of c.args.last.now in
    let d = c.in-Some.declaration.now in
    let here : declared_in c.args.entry.now.what ≡ _ = sym c.declaration_behind.ensures ∙ ap (option_map (λ x. x.now)) c.in-Some.is in
    let verdict = subst (λ v. ArityIs v c.args.at.now c.arity.new.self c.args.last.now.span c.as_str.result.now d.arity (length c.args.types.now)) c.in-Reported.is c.in_ok-arity.ensures.verdict in
    let named = subst (λ x. ArityIs Reported c.args.at.now c.arity.new.self c.args.last.now.span x d.arity (length c.args.types.now)) c.as_str.ensures verdict in
    let many = subst (λ k. ArityIs Reported c.args.at.now c.arity.new.self c.args.last.now.span t.name d.arity k) (sym (many_numbers c.args.types.now)) named in
    IfOk-weaker c.unresolved-in-Reported.result _ _ (λ m any item.
    declared_reported c.args.at.now c.arity.new.self c.unresolved-in-Reported.new.at t c.args.entry.now d (numbers c.args.types.now) m.0 c.args.last.now.span refl here many c.arity.ensures.rest (any item) c.unresolved-in-Reported.ensures.rest)
    c.unresolved-in-Reported.ensures.any

pub returns-in-OfItem-clause-carries : goal.returns-in-OfItem-clause-carries
returns-in-OfItem-clause-carries c =
    let t = tok_of c.args.last.now in
    let d = c.in-Some.declaration.now in
    let here : declared_in c.args.entry.now.what ≡ _ = sym c.declaration_behind.ensures ∙ ap (option_map (λ x. x.now)) c.in-Some.is in
    let verdict = subst (λ v. ArityIs v c.args.at.now c.arity.new.self c.args.last.now.span c.as_str.result.now d.arity (length c.args.types.now)) c.in-Kept.is c.in_ok-arity.ensures.verdict in
    let named = subst (λ x. ArityIs Kept c.args.at.now c.arity.new.self c.args.last.now.span x d.arity (length c.args.types.now)) c.as_str.ensures verdict in
    let many = subst (λ k. ArityIs Kept c.args.at.now c.arity.new.self c.args.last.now.span t.name d.arity k) (sym (many_numbers c.args.types.now)) named in
    IfOk-weaker c.applied.result _ _ (λ m applies item.
    declared_kept c.args.at.now c.arity.new.self c.applied.new.at t c.args.entry.now d (numbers c.args.types.now) m.0 c.args.last.now.span refl here many c.arity.ensures.rest applies)
    c.applied.ensures.carries

pub returns-in_default-clause-settles : goal.returns-in_default-clause-settles
returns-in_default-clause-settles c =
    if_any c.unresolved.result _ (λ m names over.
    subst (λ o. SettlesDeclared o c.args.at.now c.unresolved.new.at names (tok_of c.args.last.now) (numbers c.args.types.now)) (ap (option_map (λ x. x.now)) (sym c.in_default.is) ∙ c.declaration_behind.ensures) (silent_reports c.args.at.now c.unresolved.new.at c.unresolved.ensures.silent))

pub returns-in-Reported-clause-settles : goal.returns-in-Reported-clause-settles
returns-in-Reported-clause-settles c =
    let t = tok_of c.args.last.now in
    let d = c.in-Some.declaration.now in
    let here : declared_in c.args.entry.now.what ≡ _ = sym c.declaration_behind.ensures ∙ ap (option_map (λ x. x.now)) c.in-Some.is in
    let verdict = subst (λ v. ArityIs v c.args.at.now c.arity.new.self c.args.last.now.span c.as_str.result.now d.arity (length c.args.types.now)) c.in-Reported.is c.in_ok-arity.ensures.verdict in
    let named = subst (λ x. ArityIs Reported c.args.at.now c.arity.new.self c.args.last.now.span x d.arity (length c.args.types.now)) c.as_str.ensures verdict in
    let many = subst (λ k. ArityIs Reported c.args.at.now c.arity.new.self c.args.last.now.span t.name d.arity k) (sym (many_numbers c.args.types.now)) named in
    if_any c.unresolved-in-Reported.result _ (λ m names over.
    subst (λ o. SettlesDeclared o c.args.at.now c.unresolved-in-Reported.new.at names t (numbers c.args.types.now)) (sym here)
    (settled.declared_reported c.args.at.now c.arity.new.self c.unresolved-in-Reported.new.at names t d (numbers c.args.types.now) c.args.last.now.span refl many (silent_reports c.arity.new.self c.unresolved-in-Reported.new.at c.unresolved-in-Reported.ensures.silent)))

pub returns-in-OfItem-clause-settles : goal.returns-in-OfItem-clause-settles
returns-in-OfItem-clause-settles c = if_any c.applied.result _ (λ m names over. absurd (subst (λ v. IsOver v names) c.in-OfItem.is over))

pub returns-in-Parameters-clause-settles : goal.returns-in-Parameters-clause-settles
returns-in-Parameters-clause-settles c =
    let t = tok_of c.args.last.now in
    let d = c.in-Some.declaration.now in
    let here : declared_in c.args.entry.now.what ≡ _ = sym c.declaration_behind.ensures ∙ ap (option_map (λ x. x.now)) c.in-Some.is in
    let verdict = subst (λ v. ArityIs v c.args.at.now c.arity.new.self c.args.last.now.span c.as_str.result.now d.arity (length c.args.types.now)) c.in-Kept.is c.in_ok-arity.ensures.verdict in
    let named = subst (λ x. ArityIs Kept c.args.at.now c.arity.new.self c.args.last.now.span x d.arity (length c.args.types.now)) c.as_str.ensures verdict in
    let many = subst (λ k. ArityIs Kept c.args.at.now c.arity.new.self c.args.last.now.span t.name d.arity k) (sym (many_numbers c.args.types.now)) named in
    if_any c.applied_with_unknowns.result _ (λ m names over.
    subst (λ o. SettlesDeclared o c.args.at.now c.applied_with_unknowns.new.at names t (numbers c.args.types.now)) (sym here)
    (settled.declared_kept c.args.at.now c.arity.new.self c.applied_with_unknowns.new.at names t d (numbers c.args.types.now) c.args.last.now.span refl many (silent_reports c.arity.new.self c.applied_with_unknowns.new.at c.applied_with_unknowns.ensures.silent)))

pub returns-in_default-clause-means : goal.returns-in_default-clause-means
returns-in_default-clause-means c =
    IfOk-weaker c.unresolved.result _ _ (λ m unknown names over.
    subst (λ o. DenotesDeclared o c.args.at.now c.unresolved.new.at names (tok_of c.args.last.now) (numbers c.args.types.now) m.0) (ap (option_map (λ x. x.now)) (sym c.in_default.is) ∙ c.declaration_behind.ensures) (unknown names over)) c.unresolved.ensures.unknown

pub returns-in-Reported-clause-means : goal.returns-in-Reported-clause-means
returns-in-Reported-clause-means c =
    let t = tok_of c.args.last.now in
    let d = c.in-Some.declaration.now in
    let here : declared_in c.args.entry.now.what ≡ _ = sym c.declaration_behind.ensures ∙ ap (option_map (λ x. x.now)) c.in-Some.is in
    let verdict = subst (λ v. ArityIs v c.args.at.now c.arity.new.self c.args.last.now.span c.as_str.result.now d.arity (length c.args.types.now)) c.in-Reported.is c.in_ok-arity.ensures.verdict in
    let named = subst (λ x. ArityIs Reported c.args.at.now c.arity.new.self c.args.last.now.span x d.arity (length c.args.types.now)) c.as_str.ensures verdict in
    let many = subst (λ k. ArityIs Reported c.args.at.now c.arity.new.self c.args.last.now.span t.name d.arity k) (sym (many_numbers c.args.types.now)) named in
    IfOk-weaker c.unresolved-in-Reported.result _ _ (λ m unknown names over.
    subst (λ o. DenotesDeclared o c.args.at.now c.unresolved-in-Reported.new.at names t (numbers c.args.types.now) m.0) (sym here)
    (denoted.declared_reported c.args.at.now c.arity.new.self c.unresolved-in-Reported.new.at names t d (numbers c.args.types.now) m.0 c.args.last.now.span refl many c.arity.ensures.rest (unknown names over))) c.unresolved-in-Reported.ensures.unknown

pub returns-in-OfItem-clause-means : goal.returns-in-OfItem-clause-means
returns-in-OfItem-clause-means c = if_any c.applied.result _ (λ m names over. absurd (subst (λ v. IsOver v names) c.in-OfItem.is over))

pub returns-in-Parameters-clause-means : goal.returns-in-Parameters-clause-means
returns-in-Parameters-clause-means c =
    let t = tok_of c.args.last.now in
    let d = c.in-Some.declaration.now in
    let here : declared_in c.args.entry.now.what ≡ _ = sym c.declaration_behind.ensures ∙ ap (option_map (λ x. x.now)) c.in-Some.is in
    let verdict = subst (λ v. ArityIs v c.args.at.now c.arity.new.self c.args.last.now.span c.as_str.result.now d.arity (length c.args.types.now)) c.in-Kept.is c.in_ok-arity.ensures.verdict in
    let named = subst (λ x. ArityIs Kept c.args.at.now c.arity.new.self c.args.last.now.span x d.arity (length c.args.types.now)) c.as_str.ensures verdict in
    let many = subst (λ k. ArityIs Kept c.args.at.now c.arity.new.self c.args.last.now.span t.name d.arity k) (sym (many_numbers c.args.types.now)) named in
    IfOk-weaker c.applied_with_unknowns.result _ _ (λ m applies names over.
    subst (λ o. DenotesDeclared o c.args.at.now c.applied_with_unknowns.new.at names t (numbers c.args.types.now) m.0) (sym here)
    (denoted.declared_kept c.args.at.now c.arity.new.self c.applied_with_unknowns.new.at names t d (numbers c.args.types.now) m.0 c.args.last.now.span refl many (silent_reports c.arity.new.self c.applied_with_unknowns.new.at c.applied_with_unknowns.ensures.silent) applies)) c.applied_with_unknowns.ensures.means

pub returns-in_default-clause-untyped : goal.returns-in_default-clause-untyped
returns-in_default-clause-untyped c = ok_any c.unresolved.result _ (store_untyped c.args.at.now c.unresolved.new.at c.unresolved.ensures.rest)

pub returns-in-Reported-clause-untyped : goal.returns-in-Reported-clause-untyped
returns-in-Reported-clause-untyped c = ok_any c.unresolved-in-Reported.result _ (untyped_then (faults_untyped c.args.at.now c.arity.new.self c.arity.ensures.rest) (store_untyped c.arity.new.self c.unresolved-in-Reported.new.at c.unresolved-in-Reported.ensures.rest))

pub returns-in-OfItem-clause-untyped : goal.returns-in-OfItem-clause-untyped
returns-in-OfItem-clause-untyped c = ok_then c.applied.result c.args.at.now c.arity.new.self c.applied.new.at (faults_untyped c.args.at.now c.arity.new.self c.arity.ensures.rest) c.applied.ensures.untyped

pub returns-in-Parameters-clause-untyped : goal.returns-in-Parameters-clause-untyped
returns-in-Parameters-clause-untyped c = ok_then c.applied_with_unknowns.result c.args.at.now c.arity.new.self c.applied_with_unknowns.new.at (faults_untyped c.args.at.now c.arity.new.self c.arity.ensures.rest) c.applied_with_unknowns.ensures.untyped
