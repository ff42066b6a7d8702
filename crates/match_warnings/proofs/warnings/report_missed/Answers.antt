use Rattle.std.proofs.Common.{refl, ◌∙◌, ◌++◌, codes, ap, map, subst, Option, Some, None}
use Rattle.syntax_tree.specs.View.{place_of}
use Rattle.match_warnings.specs.Warnings.{missed_at}
use Rattle.env_table.specs.declared.faults.FaultKind.TheVariants as fault
use Rattle.typing_state.proofs.Going.{goes_refl}
use Rattle.match_warnings.proofs.Warned.{warns_none, report_warns, none_at, report_of_one}
use Rattle.std.specs.Prelude.{option_map}
use Rattle.pattern_matrix.specs.Exact.{TellsMissed, rows_of}
use Rattle.pattern_matrix.specs.Views.{shape_of}
use Rattle.pattern_matrix.specs.declared.patterns.Shape.{Shape}
use Rattle.typing_state.specs.Goes.{faults_of}
use Rattle.match_warnings.specs.Reported.{seen_row}
use Rattle.match_warnings.proofs.Reported.{missed_is, none_missed, told_missed}
use Rattle.match_warnings.proofs.warnings.report_missed.Goals as goal

pub returns-in_err-shape-clause-goes : goal.returns-in_err-shape-clause-goes
returns-in_err-shape-clause-goes c = goes_refl c.args.at.now

pub returns-in_default-clause-warns : goal.returns-in_default-clause-warns
returns-in_default-clause-warns c = warns_none c.args.at.now

pub returns-in_default-clause-goes : goal.returns-in_default-clause-goes
returns-in_default-clause-goes c = goes_refl c.args.at.now

pub returns-in_err-shape-2-clause-goes : goal.returns-in_err-shape-2-clause-goes
returns-in_err-shape-2-clause-goes c = goes_refl c.args.at.now

pub returns-in_err-text-in-Ok-clause-goes : goal.returns-in_err-text-in-Ok-clause-goes
returns-in_err-text-in-Ok-clause-goes c = goes_refl c.args.at.now

pub returns-in-Err-clause-goes : goal.returns-in-Err-clause-goes
returns-in-Err-clause-goes c = goes_refl c.args.at.now

pub returns-clause-warns : goal.returns-clause-warns
returns-clause-warns c = report_warns c.report.result c.args.at.now.telling c.args.at.now c.report.new.self c.args.span fault.Missed _ refl c.report.ensures.rest c.report.ensures.told

pub returns-clause-goes : goal.returns-clause-goes
returns-clause-goes c = c.report.ensures.goes

pub returns-in_default-clause-places : goal.returns-in_default-clause-places
returns-in_default-clause-places c = none_at (missed_at (place_of c.args.span)) c.args.at.now

pub returns-clause-places : goal.returns-clause-places
returns-clause-places c = report_of_one c.report.result c.args.at.now.telling c.args.at.now c.report.new.self c.args.span fault.Missed _ c.report.ensures.told

pub returns-in_default-clause-which : goal.returns-in_default-clause-which
returns-in_default-clause-which c =
    let rs = c.args.matrix.now.rows.items in
    none_missed (map seen_row rs) c.args.at.now.telling (place_of c.args.span) (faults_of c.args.at.now)
    (missed_is rs None (λ w ts sound typed len. subst (λ (o : Option Shape). TellsMissed w ts (rows_of rs) (option_map shape_of o)) c.in_default.is (c.in_ok-shape.ensures w ts sound typed len)))

pub returns-clause-which : goal.returns-clause-which
returns-clause-which c =
    let rs = c.args.matrix.now.rows.items in
    told_missed c.report.result (map seen_row rs) (shape_of c.in-Some.shape) c.args.at.now.telling (faults_of c.args.at.now) (faults_of c.report.new.self) c.args.span _
    (missed_is rs (Some (shape_of c.in-Some.shape)) (λ w ts sound typed len. subst (λ (o : Option Shape). TellsMissed w ts (rows_of rs) (option_map shape_of o)) c.in-Some.is (c.in_ok-shape.ensures w ts sound typed len)))
    (c.in_ok-text-in-Ok.ensures ∙ c.in-Ok.ensures.ok ∙ ap (λ xs. codes "Not every value is matched: " ++ xs) (c.as_str-shape.ensures ∙ c.in_ok-shape-2.ensures)) c.report.ensures.told
