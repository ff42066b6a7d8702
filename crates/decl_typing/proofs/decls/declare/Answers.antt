use Rattle.std.proofs.Common.{◌≡◌, ◌∙◌, ◌<◌, [], ◌∷◌, true, false, length, option_map, rules, sym, ap, subst}
use Rattle.std.proofs.lemmas.Result.{IfOk-weaker}
use Rattle.env_table.specs.declared.entries.Declaration.{Declaration}
use Rattle.operand_laws.specs.Operands.{number_of}
use Rattle.decl_typing.specs.Asked.{tokens_as, SettlesTokens}
use Rattle.decl_typing.specs.Owned.{DeclaresType}
use Rattle.decl_typing.proofs.Declaring.{type_declared}
use Rattle.type_expressions.proofs.Untyped.{untyped_then, faults_untyped, ok_any}
use Rattle.typing_state.proofs.Going.{goes_trans}
use Rattle.decl_typing.proofs.decls.declare.Goals.{then-renames, else-renames+in_ok-origin_at}
use Rattle.decl_typing.proofs.decls.declare.Goals as goal

pub returns-clause-goes : goal.returns-clause-goes
returns-clause-goes c = goes_trans c.args.at.now c.parameters_are_new.new.at c.declared_deeper.new.at (goes_trans c.args.at.now c.note_written.new.at c.parameters_are_new.new.at c.note_written.ensures.goes c.parameters_are_new.ensures.goes) c.declared_deeper.ensures.goes

pub returns-in_err-note_written-clause-goes : goal.returns-in_err-note_written-clause-goes
returns-in_err-note_written-clause-goes c = c.note_written.ensures.goes

pub returns-in_err-origin_at-clause-goes : goal.returns-in_err-origin_at-clause-goes
returns-in_err-origin_at-clause-goes c = goes_trans c.args.at.now c.parameters_are_new.new.at c.declared_deeper.new.at (goes_trans c.args.at.now c.note_written.new.at c.parameters_are_new.new.at c.note_written.ensures.goes c.parameters_are_new.ensures.goes) c.declared_deeper.ensures.goes

pub returns-in_err-origin_of-clause-goes : goal.returns-in_err-origin_of-clause-goes
returns-in_err-origin_of-clause-goes c = goes_trans c.args.at.now c.parameters_are_new.new.at c.declared_deeper.new.at (goes_trans c.args.at.now c.note_written.new.at c.parameters_are_new.new.at c.note_written.ensures.goes c.parameters_are_new.ensures.goes) c.declared_deeper.ensures.goes

pub returns-in_err-parameters_are_new-clause-goes : goal.returns-in_err-parameters_are_new-clause-goes
returns-in_err-parameters_are_new-clause-goes c = goes_trans c.args.at.now c.note_written.new.at c.parameters_are_new.new.at c.note_written.ensures.goes c.parameters_are_new.ensures.goes

pub returns-in_err-root-clause-goes : goal.returns-in_err-root-clause-goes
returns-in_err-root-clause-goes c = goes_trans c.args.at.now c.parameters_are_new.new.at c.declared_deeper.new.at (goes_trans c.args.at.now c.note_written.new.at c.parameters_are_new.new.at c.note_written.ensures.goes c.parameters_are_new.ensures.goes) c.declared_deeper.ensures.goes

pub returns-clause-untyped : goal.returns-clause-untyped
returns-clause-untyped c = ok_any c.owned.result _ (untyped_then (untyped_then c.in_ok-note_written.ensures.untyped (faults_untyped c.note_written.new.at c.parameters_are_new.new.at c.parameters_are_new.ensures.rest)) c.in_ok-root.ensures.untyped)

pub returns-clause-means : goal.returns-clause-means
returns-clause-means c =
    let made = type_declared c.args.at.now c.note_written.new.at c.parameters_are_new.new.at c.declared_deeper.new.at c.args.inner.now c.args.part.now c.in_ok-root.root.0 c.in_ok-root.body.0 (option_map (λ o. o.path.items) c.in_ok-origin_of.field-0) c.in_ok-root.shape c.note_written.ensures.rest c.note_written.ensures.goes
    (subst (λ ts. SettlesTokens c.note_written.new.at c.parameters_are_new.new.at (tokens_as ts)) c.deref.ensures.value c.in_ok-parameters_are_new.ensures.settles) c.parameters_are_new.ensures.rest c.parameters_are_new.ensures.goes c.in_ok-root.ensures.means c.in_ok-origin_of.ensures in
    IfOk-weaker c.owned.result _ _ (λ d is. subst (λ (x : Declaration). DeclaresType c.args.at.now c.declared_deeper.new.at c.args.inner.now c.args.part.now x.root.0 (option_map (λ o. o.path.items) x.defines) x.shape) (sym is) made) c.owned.ensures

pub returns-clause-arity : goal.returns-clause-arity
returns-clause-arity c =
    let many : c.len.result ≡ length c.args.part.now.parameters.items = search rules in
    IfOk-weaker c.owned.result _ _ (λ d is small. ap (λ (x : Declaration). x.arity) is ∙ c.number_of.ensures (subst (λ k. k < 4294967296) (sym many) small) ∙ many) c.owned.ensures

pub returns-clause-origin : goal.returns-clause-origin
returns-clause-origin c =
    IfOk-weaker c.owned.result _ _ (λ d is own. elim c.if-renames.branch [
      | then-renames w ↦ let f : false ≡ true = sym own ∙ w.if-renames.true in absurd (cc)
      | else-renames+in_ok-origin_at w ↦ (w.in_ok-origin_at.field-0, ap (λ (x : Declaration). x.origin) is ∙ w.origin-is, w.in_ok-origin_at.ensures.path ∙ ap (λ i. number_of i c.args.part.now.number ∷ []) (c.declared_deeper.ensures.goes.item ∙ c.parameters_are_new.ensures.goes.item ∙ c.note_written.ensures.goes.item))
    ]) c.owned.ensures
