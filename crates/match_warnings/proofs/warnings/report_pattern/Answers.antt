use Rattle.syntax_tree.specs.View.{place_of}
use Rattle.match_warnings.specs.Warnings.{missed_at}
use Rattle.typing_state.proofs.Going.{goes_refl}
use Rattle.match_warnings.proofs.Warned.{warns_none, none_at}
use Rattle.std.proofs.Common.{◌∙◌, ◌++◌, ◌∷◌, List, [], false, map, sym, ap}
use Rattle.std.specs.Prelude.{option_map}
use Rattle.row_parts.specs.Numbered.{operand_view}
use Rattle.typing_state.specs.Goes.{faults_of}
use Rattle.pattern_matrix.specs.Views.{typed_of}
use Rattle.pattern_matrix.specs.declared.patterns.PatRow.{PatRow}
use Rattle.match_warnings.specs.Reported.{SeenRow, seen_in, seen_row}
use Rattle.match_warnings.proofs.Reported.{pattern_plain, pattern_told, pattern_unseen, seen_is, seen_none}
use Rattle.match_warnings.proofs.warnings.report_pattern.Goals as goal

pub returns-then-is_plain-clause-warns : goal.returns-then-is_plain-clause-warns
returns-then-is_plain-clause-warns c = warns_none c.args.at.now

pub returns-then-is_plain-clause-goes : goal.returns-then-is_plain-clause-goes
returns-then-is_plain-clause-goes c = goes_refl c.args.at.now

pub returns-in_err-pat-clause-goes : goal.returns-in_err-pat-clause-goes
returns-in_err-pat-clause-goes c = goes_refl c.args.at.now

pub returns-in_err-row-clause-goes : goal.returns-in_err-row-clause-goes
returns-in_err-row-clause-goes c = goes_refl c.args.at.now

pub returns-in_err-push-clause-goes : goal.returns-in_err-push-clause-goes
returns-in_err-push-clause-goes c = goes_refl c.args.at.now

pub returns-in_err-report_missed-clause-goes : goal.returns-in_err-report_missed-clause-goes
returns-in_err-report_missed-clause-goes c = c.report_missed.ensures.goes

pub returns-in_ok-report_missed-clause-warns : goal.returns-in_ok-report_missed-clause-warns
returns-in_ok-report_missed-clause-warns c = c.in_ok-report_missed.ensures.warns

pub returns-in_ok-report_missed-clause-goes : goal.returns-in_ok-report_missed-clause-goes
returns-in_ok-report_missed-clause-goes c = c.report_missed.ensures.goes

pub returns-in_default-clause-warns : goal.returns-in_default-clause-warns
returns-in_default-clause-warns c = warns_none c.args.at.now

pub returns-in_default-clause-goes : goal.returns-in_default-clause-goes
returns-in_default-clause-goes c = goes_refl c.args.at.now

pub returns-then-is_plain-clause-places : goal.returns-then-is_plain-clause-places
returns-then-is_plain-clause-places c = none_at (missed_at (place_of c.args.pattern.span)) c.args.at.now

pub returns-in_ok-report_missed-clause-places : goal.returns-in_ok-report_missed-clause-places
returns-in_ok-report_missed-clause-places c = c.in_ok-report_missed.ensures.places

pub returns-in_default-clause-places : goal.returns-in_default-clause-places
returns-in_default-clause-places c = none_at (missed_at (place_of c.args.pattern.span)) c.args.at.now

pub returns-then-is_plain-clause-which : goal.returns-then-is_plain-clause-which
returns-then-is_plain-clause-which c = λ members has.
    pattern_plain c.args.env.now (operand_view c.args.pattern) c.args.at.now.telling (place_of c.args.pattern.span) (faults_of c.args.at.now) (sym c.is_plain.ensures ∙ c.if-is_plain.true)

pub returns-then-is_unfinished-clause-warns : goal.returns-then-is_unfinished-clause-warns
returns-then-is_unfinished-clause-warns c = warns_none c.args.at.now

pub returns-then-is_unfinished-clause-goes : goal.returns-then-is_unfinished-clause-goes
returns-then-is_unfinished-clause-goes c = goes_refl c.args.at.now

pub returns-then-is_unfinished-clause-places : goal.returns-then-is_unfinished-clause-places
returns-then-is_unfinished-clause-places c = none_at (missed_at (place_of c.args.pattern.span)) c.args.at.now

pub returns-then-is_unfinished-clause-which : goal.returns-then-is_unfinished-clause-which
returns-then-is_unfinished-clause-which c = λ members has.
    let p = operand_view c.args.pattern in
    pattern_unseen (seen_in c.args.env.now false p) c.args.at.now.telling (place_of c.args.pattern.span) (faults_of c.args.at.now) (seen_none c.args.env.now false p (sym c.is_unfinished.ensures ∙ c.if-is_unfinished.true))

pub returns-in_ok-report_missed-clause-which : goal.returns-in_ok-report_missed-clause-which
returns-in_ok-report_missed-clause-which c = λ members has.
    let p = operand_view c.args.pattern in
    pattern_told (seen_in c.args.env.now false p) (typed_of c.in-Some.pat) (map seen_row c.push.new.list.items) c.args.at.now.telling (place_of c.args.pattern.span) (faults_of c.args.at.now) (faults_of c.report_missed.new.at)
    (seen_is c.args.env.now false p (sym c.is_unfinished.ensures ∙ c.if-is_unfinished.false) ∙ sym (c.in_ok-pat.ensures members has) ∙ ap (option_map typed_of) c.in-Some.is)
    (ap (map seen_row) c.in_ok-push.ensures.pushed ∙ ap (λ (xs : List PatRow). map seen_row (xs ++ c.in_ok-row.field-0 ∷ [])) c.new-rows.ensures.items ∙ ap (λ (r : SeenRow). r ∷ []) c.in_ok-row.ensures)
    c.in_ok-report_missed.ensures.which

pub returns-in_default-clause-which : goal.returns-in_default-clause-which
returns-in_default-clause-which c = λ members has.
    let p = operand_view c.args.pattern in
    pattern_unseen (seen_in c.args.env.now false p) c.args.at.now.telling (place_of c.args.pattern.span) (faults_of c.args.at.now)
    (seen_is c.args.env.now false p (sym c.is_unfinished.ensures ∙ c.if-is_unfinished.false) ∙ sym (c.in_ok-pat.ensures members has) ∙ ap (option_map typed_of) c.in_default.is)
