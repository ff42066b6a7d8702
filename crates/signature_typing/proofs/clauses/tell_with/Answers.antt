use Rattle.typing_state.proofs.Going.{goes_refl}
use Rattle.std.proofs.Common.{◌∙◌, ap, subst}
use Rattle.env_table.specs.declared.faults.FaultKind.TheVariants as fault
use Rattle.typing_state.specs.Goes.{faults_of, Told}
use Rattle.signature_typing.specs.ModuleTypes.{with_text}
use Rattle.module_steps.proofs.Naming.{on_ok}
use Rattle.signature_typing.proofs.clauses.tell_with.Goals as goal

pub returns-clause-told : goal.returns-clause-told
returns-clause-told c =
    on_ok c.report.result
    (subst (λ m. Told c.args.at.now.telling (faults_of c.args.at.now) (faults_of c.report.new.self) c.args.name.now.span fault.With m) (c.in_ok-text-2.ensures ∙ c.in_ok-text.ensures ∙ ap (λ x. with_text x c.args.arity) c.as_str.ensures))
    c.report.ensures.told

pub returns-clause-goes : goal.returns-clause-goes
returns-clause-goes c = c.report.ensures.goes

pub returns-in_err-text-2-clause-goes : goal.returns-in_err-text-2-clause-goes
returns-in_err-text-2-clause-goes c = goes_refl c.args.at.now

pub returns-in_err-text-clause-goes : goal.returns-in_err-text-clause-goes
returns-in_err-text-clause-goes c = goes_refl c.args.at.now
