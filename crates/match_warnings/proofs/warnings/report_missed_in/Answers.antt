use Rattle.std.proofs.Common.{◌∙◌, map, sym}
use Rattle.syntax_tree.specs.Names.{row_of}
use Rattle.syntax_tree.specs.View.{place_of}
use Rattle.typing_state.proofs.Going.{goes_refl}
use Rattle.typing_state.specs.Goes.{faults_of}
use Rattle.match_warnings.specs.Reported.{seen_row}
use Rattle.match_warnings.specs.Warnings.{is_try, missed_in}
use Rattle.match_warnings.proofs.Warned.{warns_none, none_at}
use Rattle.match_warnings.proofs.Reported.{of_a_try, of_others, places_of_others}
use Rattle.match_warnings.proofs.warnings.report_missed_in.Goals as goal

pub returns-then-is_try-clause-warns : goal.returns-then-is_try-clause-warns
returns-then-is_try-clause-warns c = warns_none c.args.at.now

pub returns-then-is_try-clause-goes : goal.returns-then-is_try-clause-goes
returns-then-is_try-clause-goes c = goes_refl c.args.at.now

pub returns-then-is_try-clause-places : goal.returns-then-is_try-clause-places
returns-then-is_try-clause-places c = none_at (missed_in (row_of c.args.match_row) (place_of c.args.span)) c.args.at.now

pub returns-then-is_try-clause-which : goal.returns-then-is_try-clause-which
returns-then-is_try-clause-which c =
    of_a_try (is_try (row_of c.args.match_row)) (place_of c.args.span) (map seen_row c.args.matrix.now.rows.items) c.args.at.now.telling (faults_of c.args.at.now) (sym c.is_try.ensures ∙ c.if-is_try.true)

pub returns-clause-warns : goal.returns-clause-warns
returns-clause-warns c = c.report_missed.ensures.warns

pub returns-clause-goes : goal.returns-clause-goes
returns-clause-goes c = c.report_missed.ensures.goes

pub returns-clause-places : goal.returns-clause-places
returns-clause-places c =
    places_of_others c.report_missed.result (row_of c.args.match_row) (place_of c.args.span) c.args.at.now c.report_missed.new.at (sym c.is_try.ensures ∙ c.if-is_try.false) c.report_missed.ensures.places

pub returns-clause-which : goal.returns-clause-which
returns-clause-which c =
    of_others c.report_missed.result (is_try (row_of c.args.match_row)) (place_of c.args.span) (map seen_row c.args.matrix.now.rows.items) c.args.at.now.telling (faults_of c.args.at.now) (faults_of c.report_missed.new.at)
    (sym c.is_try.ensures ∙ c.if-is_try.false) c.report_missed.ensures.which
