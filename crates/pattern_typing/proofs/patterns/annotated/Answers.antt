use Rattle.std.proofs.Common.{◌∙◌, ap, sym, subst, option_map}
use Rattle.std.specs.Prelude.{None, Some}
use Rattle.std.proofs.lemmas.List.{nil_from_length}
use Rattle.std.proofs.lemmas.Result.{IfOk-weaker}
use Rattle.row_parts.specs.Numbered.{operand_view}
use Rattle.type_terms.specs.declared.types.NodeRef.{NodeRef}
use Rattle.type_expressions.specs.Written.{IsAsWritten}
use Rattle.pattern_typing.proofs.Carrying.{if_any}
use Rattle.pattern_typing.proofs.Stepping.{first_node, no_typed, first_asked}
use Rattle.pattern_typing.proofs.patterns.annotated.Goals as goal

pub returns-in-Some-clause-first : goal.returns-in-Some-clause-first
returns-in-Some-clause-first c =
    let x = c.in-Some.first.now in
    IfOk-weaker c.as_written.result _ _ (λ m h none o os is.
    let same : IsAsWritten None x.part.span x.ty c.args.at.now c.as_written.new.at c.args.env.now m = subst (λ w. IsAsWritten (option_map operand_view w) x.part.span x.ty c.args.at.now c.as_written.new.at c.args.env.now m) none h in
    (first_node c.args.typed.now c.in-Some.field-0-1.now x c.in-Some.ensures.cases.0 ∙ ap (λ (n : NodeRef). Some n.0) (sym same.0), same.1)) c.as_written.ensures.written

pub returns-in-None-clause-first : goal.returns-in-None-clause-first
returns-in-None-clause-first c = if_any c.var.result _ (λ m none o os is. absurd (no_typed c.args.typed.now o os (nil_from_length c.args.typed.now c.in-None.ensures.cases) is))

pub returns-in-Some-clause-carries : goal.returns-in-Some-clause-carries
returns-in-Some-clause-carries c =
    IfOk-weaker c.as_written.result _ _ (λ m h. first_asked c.args.at.now c.as_written.new.at c.args.env.now (option_map operand_view c.args.written) c.args.typed.now c.in-Some.field-0-1.now c.in-Some.first.now m.0 c.in-Some.ensures.cases.0 h) c.as_written.ensures.carries

pub returns-in-None-clause-carries : goal.returns-in-None-clause-carries
returns-in-None-clause-carries c = if_any c.var.result _ (λ m o os is. absurd (no_typed c.args.typed.now o os (nil_from_length c.args.typed.now c.in-None.ensures.cases) is))

pub returns-in-None-clause-goes : goal.returns-in-None-clause-goes
returns-in-None-clause-goes c = c.var.ensures.goes

pub returns-in-Some-clause-goes : goal.returns-in-Some-clause-goes
returns-in-Some-clause-goes c = c.as_written.ensures.goes
