use Rattle.typing_state.proofs.Going.{goes_refl}
use Rattle.std.proofs.Common.{◌∙◌, map, sym, subst}
use Rattle.std.proofs.lemmas.Result.{IfOk-weaker}
use Rattle.row_parts.specs.Numbered.{operand_view}
use Rattle.typing_rows.specs.Asked.{expressions_of}
use Rattle.typing_rows.specs.Contracts.{EndsUnknown}
use Rattle.expression_steps.proofs.EndingLaws.{unknown_alone, unknown_more}
use Rattle.expression_steps.proofs.heads.built_by_unknown.Goals as goal

pub returns-then-is_empty-clause-carries : goal.returns-then-is_empty-clause-carries
returns-then-is_empty-clause-carries c =
    subst (λ m. EndsUnknown c.args.at.now c.args.at.now (expressions_of c.args.at.now.item (map operand_view c.args.later.now)) c.args.built.0 m.0) (sym c.unnamed.ensures.ty)
    (unknown_alone c.args.at.now c.args.at.now.item c.args.later.now c.args.built.0 (sym c.is_empty.ensures ∙ c.if-is_empty.true))

pub returns-clause-carries : goal.returns-clause-carries
returns-clause-carries c =
    IfOk-weaker c.any_type.result _ _ (λ u any. unknown_more c.args.at.now c.any_type.new.at c.args.at.now.item c.args.later.now c.args.built.0 u.ty.0 (sym c.is_empty.ensures ∙ c.if-is_empty.false) any) c.any_type.ensures.carries

pub returns-clause-goes : goal.returns-clause-goes
returns-clause-goes c = c.any_type.ensures.goes

pub returns-then-is_empty-clause-goes : goal.returns-then-is_empty-clause-goes
returns-then-is_empty-clause-goes c = goes_refl c.args.at.now
