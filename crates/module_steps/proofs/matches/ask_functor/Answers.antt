use Rattle.typing_state.proofs.Going.{goes_refl}
use Rattle.std.proofs.Common.{◌≡◌, ◌∙◌, sym, ap, subst, true}
use Rattle.std.specs.Prelude.{not}
use Rattle.env_table.specs.declared.faults.FaultKind.TheVariants as fault
use Rattle.typing_state.specs.Goes.{faults_of, Told}
use Rattle.module_steps.specs.Told.{no_functor_text}
use Rattle.module_steps.specs.Modules.{is_structure, ToldUnless}
use Rattle.module_steps.proofs.FunctorLaws.{structure_is}
use Rattle.module_steps.proofs.matches.ask_functor.Goals as goal

pub returns-in_ok-report-in-Structure-clause-told : goal.returns-in_ok-report-in-Structure-clause-told
returns-in_ok-report-in-Structure-clause-told c =
    let is : is_structure c.args.sig.now ≡ true = ap is_structure c.in-Structure.is ∙ structure_is c.in-Structure.field-0 in
    subst (λ b. ToldUnless (not b) c.args.at.now c.report.new.self c.args.span fault.Functor no_functor_text) (sym is)
    (subst (λ m. Told c.args.at.now.telling (faults_of c.args.at.now) (faults_of c.report.new.self) c.args.span fault.Functor m) c.in_ok-text-in-Structure.ensures c.in_ok-report-in-Structure.ensures.told)

pub returns-in-Functor-clause-goes : goal.returns-in-Functor-clause-goes
returns-in-Functor-clause-goes c = goes_refl c.args.at.now

pub returns-in-Hole-clause-goes : goal.returns-in-Hole-clause-goes
returns-in-Hole-clause-goes c = goes_refl c.args.at.now

pub returns-in_err-report-in-Structure-clause-goes : goal.returns-in_err-report-in-Structure-clause-goes
returns-in_err-report-in-Structure-clause-goes c = c.report.ensures.goes

pub returns-in_err-text-in-Structure-clause-goes : goal.returns-in_err-text-in-Structure-clause-goes
returns-in_err-text-in-Structure-clause-goes c = goes_refl c.args.at.now

pub returns-in_ok-report-in-Structure-clause-goes : goal.returns-in_ok-report-in-Structure-clause-goes
returns-in_ok-report-in-Structure-clause-goes c = c.report.ensures.goes
