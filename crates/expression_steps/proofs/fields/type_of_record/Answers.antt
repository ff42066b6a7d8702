use Rattle.std.proofs.Common.{◌∙◌, sym, subst}
use Rattle.type_terms.specs.declared.types.NodeRef.{NodeRef}
use Rattle.use_typing.specs.Uses.{GivenOrNew}
use Rattle.record_rows.specs.RecordExpressions.{GivesRecord}
use Rattle.expression_steps.specs.Records.{here_of}
use Rattle.expression_steps.proofs.RecordLaws.{record_given}
use Rattle.expression_steps.proofs.fields.type_of_record.Goals as goal

pub returns-clause-carries : goal.returns-clause-carries
returns-clause-carries c =
    let a = c.args.at.now in
    let b = c.type_or_var.new.at in
    subst (λ (t : NodeRef). GivesRecord (here_of c.args.found.now) a b t.0) (sym c.unnamed.ensures.ty)
    (record_given c.args.found.now a b c.in_ok-ty.ty (subst (λ o. GivenOrNew o a b c.in_ok-ty.ty) c.ty.ensures c.in_ok-ty.ensures.ty) (λ none. c.in_ok-ty.ensures.carries (c.ty.ensures ∙ none)))

pub returns-clause-goes : goal.returns-clause-goes
returns-clause-goes c = c.type_or_var.ensures.goes

pub returns-in_err-ty-clause-goes : goal.returns-in_err-ty-clause-goes
returns-in_err-ty-clause-goes c = c.type_or_var.ensures.goes
