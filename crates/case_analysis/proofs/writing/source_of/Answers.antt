use Rattle.std.proofs.Common.{rules, ◌≤◌, Some, length, sym, ◌∙◌, ap}
use Rattle.case_analysis.proofs.Sources.{source_is, source_none}
use Rattle.case_analysis.proofs.writing.source_of.Goals as goal

pub returns-in-Ok : goal.returns-in-Ok
returns-in-Ok c =
    let starts : c.args.span.start ≤ c.args.span.end = search rules in
    let ends : c.args.span.end ≤ length c.args.text.now = search rules in
    ap Some c.in-Ok.ensures.cases.0 ∙ sym (source_is c.args.text.now c.args.span.start c.args.span.end starts ends c.in-Ok.ensures.cases.1)

pub returns-in-Err : goal.returns-in-Err
returns-in-Err c =
    let starts : c.args.span.start ≤ c.args.span.end = search rules in
    let ends : c.args.span.end ≤ length c.args.text.now = search rules in
    sym (source_none c.args.text.now c.args.span.start c.args.span.end starts ends c.in-Err.ensures.cases.0)
