use Rattle.type_expressions.proofs.Untyped.{store_untyped, ok_any}
use Rattle.std.proofs.Common.{option_map, sym, subst}
use Rattle.std.specs.Option.{option_copied}
use Rattle.std.proofs.lemmas.Result.{IfOk-weaker}
use Rattle.syntax_tree.specs.View.{tok_of}
use Rattle.type_nodes.specs.Views.{numbers}
use Rattle.typing_rows.specs.Declaring.{declared_in, DeclaresTo, NamesTo}
use Rattle.type_expressions.proofs.Answering.{if_any}
use Rattle.typing_rows.specs.DeclaredContracts.{SettlesDeclared, SettlesNamed}
use Rattle.typing_rows.proofs.DeclaredOrdered.{silent_reports}
use Rattle.declared_rows.specs.Contracts.{DenotesDeclared, DenotesNamed}
use Rattle.type_expressions.proofs.types.named_type.Goals as goal

pub returns-in-None-clause-carries : goal.returns-in-None-clause-carries
returns-in-None-clause-carries c =
    IfOk-weaker c.unresolved.result _ _ (λ m any item.
    subst (λ o. NamesTo (option_map (λ r. r.value) (option_copied o)) c.args.at.now c.unresolved.new.at (tok_of c.args.last.now) (numbers c.args.types.now) m.0) (sym c.in-None.is) (any item, c.unresolved.ensures.rest))
    c.unresolved.ensures.any

pub returns-in-Some-clause-carries : goal.returns-in-Some-clause-carries
returns-in-Some-clause-carries c =
    IfOk-weaker c.declared.result _ _ (λ m carries item.
    subst (λ o. NamesTo (option_map (λ r. r.value) (option_copied o)) c.args.at.now c.declared.new.at (tok_of c.args.last.now) (numbers c.args.types.now) m.0) (sym c.in-Some.is)
    (subst (λ x. DeclaresTo c.args.at.now c.declared.new.at (tok_of c.args.last.now) x (numbers c.args.types.now) m.0) c.deref.ensures (carries item)))
    c.declared.ensures.carries

pub returns-in-None-clause-settles : goal.returns-in-None-clause-settles
returns-in-None-clause-settles c =
    if_any c.unresolved.result _ (λ m names over.
    subst (λ o. SettlesNamed (option_map (λ r. r.value) (option_copied o)) c.args.at.now c.unresolved.new.at names (tok_of c.args.last.now) (numbers c.args.types.now)) (sym c.in-None.is) (silent_reports c.args.at.now c.unresolved.new.at c.unresolved.ensures.silent))

pub returns-in-Some-clause-settles : goal.returns-in-Some-clause-settles
returns-in-Some-clause-settles c =
    IfOk-weaker c.declared.result _ _ (λ m settles names over.
    subst (λ o. SettlesNamed (option_map (λ r. r.value) (option_copied o)) c.args.at.now c.declared.new.at names (tok_of c.args.last.now) (numbers c.args.types.now)) (sym c.in-Some.is)
    (subst (λ x. SettlesDeclared (declared_in x.what) c.args.at.now c.declared.new.at names (tok_of c.args.last.now) (numbers c.args.types.now)) c.deref.ensures (settles names over)))
    c.declared.ensures.settles

pub returns-in-None-clause-means : goal.returns-in-None-clause-means
returns-in-None-clause-means c =
    IfOk-weaker c.unresolved.result _ _ (λ m unknown names over.
    subst (λ o. DenotesNamed (option_map (λ r. r.value) (option_copied o)) c.args.at.now c.unresolved.new.at names (tok_of c.args.last.now) (numbers c.args.types.now) m.0) (sym c.in-None.is) (unknown names over)) c.unresolved.ensures.unknown

pub returns-in-Some-clause-means : goal.returns-in-Some-clause-means
returns-in-Some-clause-means c =
    IfOk-weaker c.declared.result _ _ (λ m means names over.
    subst (λ o. DenotesNamed (option_map (λ r. r.value) (option_copied o)) c.args.at.now c.declared.new.at names (tok_of c.args.last.now) (numbers c.args.types.now) m.0) (sym c.in-Some.is)
    (subst (λ x. DenotesDeclared (declared_in x.what) c.args.at.now c.declared.new.at names (tok_of c.args.last.now) (numbers c.args.types.now) m.0) c.deref.ensures (means names over)))
    c.declared.ensures.means

pub returns-in-None-clause-untyped : goal.returns-in-None-clause-untyped
returns-in-None-clause-untyped c = ok_any c.unresolved.result _ (store_untyped c.args.at.now c.unresolved.new.at c.unresolved.ensures.rest)

pub returns-in-Some-clause-untyped : goal.returns-in-Some-clause-untyped
returns-in-Some-clause-untyped c = c.declared.ensures.untyped
