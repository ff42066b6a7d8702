use Rattle.typing_state.proofs.Going.{goes_trans, goes_refl}
use Rattle.std.proofs.Common.{◌≡◌, ◌∙◌, ap, List, length, true}
use Rattle.std.specs.Prelude.{◌==◌}
use Rattle.type_terms.specs.declared.types.NodeRef.{NodeRef}
use Rattle.module_steps.proofs.Opening.{told_open}
use Rattle.module_steps.proofs.closing.tell_open.Goals as goal

pub returns-clause-told : goal.returns-clause-told
returns-clause-told c =
    told_open c.quantify_all.result c.args.free.now c.args.at.now c.report.new.self c.quantify_all.new.at c.args.span _ (λ e. let f = c.if-is_empty.false in let h : c.is_empty.result ≡ true = c.is_empty.ensures ∙ ap (λ (ns : List NodeRef). length ns == 0) e in cc) c.in_ok-text.ensures c.in_ok-report.ensures.told c.quantify_all.ensures.rest.faults

pub returns-clause-goes : goal.returns-clause-goes
returns-clause-goes c = goes_trans c.args.at.now c.report.new.self c.quantify_all.new.at c.report.ensures.goes c.quantify_all.ensures.goes

pub returns-in_err-report-clause-goes : goal.returns-in_err-report-clause-goes
returns-in_err-report-clause-goes c = c.report.ensures.goes

pub returns-in_err-text-clause-goes : goal.returns-in_err-text-clause-goes
returns-in_err-text-clause-goes c = goes_refl c.args.at.now

pub returns-then-is_empty-clause-goes : goal.returns-then-is_empty-clause-goes
returns-then-is_empty-clause-goes c = goes_refl c.args.at.now
