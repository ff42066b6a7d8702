use Rattle.std.proofs.Common.{◌∙◌, refl, sym}
use Rattle.std.specs.Prelude.{◌==◌}
use Rattle.std.specs.List.{list_any}
use Rattle.typing_state.specs.Goes.{faults_of}
use Rattle.match_warnings.proofs.Reported.{reached, unreached}
use Rattle.syntax_tree.specs.View.{place_of}
use Rattle.match_warnings.specs.Warnings.{unused_at}
use Rattle.env_table.specs.declared.faults.FaultKind.TheVariants as fault
use Rattle.typing_state.proofs.Going.{goes_refl}
use Rattle.match_warnings.proofs.Warned.{warns_none, report_warns, none_at, report_of_one}
use Rattle.match_warnings.proofs.warnings.report_if_unused.Goals as goal

pub returns-then-not-contains-clause-warns : goal.returns-then-not-contains-clause-warns
returns-then-not-contains-clause-warns c = warns_none c.args.at.now

pub returns-then-not-contains-clause-goes : goal.returns-then-not-contains-clause-goes
returns-then-not-contains-clause-goes c = goes_refl c.args.at.now

pub returns-in_err-text-clause-goes : goal.returns-in_err-text-clause-goes
returns-in_err-text-clause-goes c = goes_refl c.args.at.now

pub returns-clause-warns : goal.returns-clause-warns
returns-clause-warns c = report_warns c.report.result c.args.at.now.telling c.args.at.now c.report.new.self c.args.case fault.Unused _ refl c.report.ensures.rest c.report.ensures.told

pub returns-clause-goes : goal.returns-clause-goes
returns-clause-goes c = c.report.ensures.goes

pub returns-then-not-contains-clause-places : goal.returns-then-not-contains-clause-places
returns-then-not-contains-clause-places c = none_at (unused_at (place_of c.args.case)) c.args.at.now

pub returns-clause-places : goal.returns-clause-places
returns-clause-places c = report_of_one c.report.result c.args.at.now.telling c.args.at.now c.report.new.self c.args.case fault.Unused _ c.report.ensures.told

pub returns-then-not-contains-clause-which : goal.returns-then-not-contains-clause-which
returns-then-not-contains-clause-which c =
    reached (list_any (λ u. u == c.args.place) c.args.unused.now) c.args.at.now.telling (place_of c.args.case) (faults_of c.args.at.now) (sym c.contains.ensures.value ∙ c.if-not-contains.true)

pub returns-clause-which : goal.returns-clause-which
returns-clause-which c =
    unreached c.report.result (list_any (λ u. u == c.args.place) c.args.unused.now) c.args.at.now.telling (faults_of c.args.at.now) (faults_of c.report.new.self) c.args.case _ c.in_ok-text.ensures
    (sym c.contains.ensures.value ∙ c.if-not-contains.false) c.report.ensures.told
