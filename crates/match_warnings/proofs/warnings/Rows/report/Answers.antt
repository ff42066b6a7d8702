use Rattle.std.proofs.Common.{◌∙◌, ℕ, List, map, sym, subst}
use Rattle.std.specs.Prelude.{OnOk}
use Rattle.text_terms.specs.declared.Span.{Span}
use Rattle.syntax_tree.specs.Names.{row_of}
use Rattle.syntax_tree.specs.View.{place_of}
use Rattle.match_warnings.specs.Warnings.{WarnsOf, missed_in, spans_of, unused_cases, warnings_of}
use Rattle.typing_state.proofs.Going.{goes_refl, goes_trans}
use Rattle.match_warnings.proofs.Warned.{warns_none, ends_warned, none_at, ends_both}
use Rattle.typing_state.specs.Goes.{faults_of}
use Rattle.typing_state.specs.declared.parts.Telling.{Telling}
use Rattle.match_warnings.specs.Reported.{Reports, unused_among}
use Rattle.match_warnings.proofs.Reported.{heard_match, rows_reported, silent_match, unused_are}
use Rattle.match_warnings.proofs.warnings.Rows.report.Goals as goal

pub returns-then-is_silent-clause-warns : goal.returns-then-is_silent-clause-warns
returns-then-is_silent-clause-warns c = warns_none c.args.at.now

pub returns-then-is_silent-clause-goes : goal.returns-then-is_silent-clause-goes
returns-then-is_silent-clause-goes c = goes_refl c.args.at.now

pub returns-in_err-report_missed_in-clause-goes : goal.returns-in_err-report_missed_in-clause-goes
returns-in_err-report_missed_in-clause-goes c = c.report_missed_in.ensures.goes

pub returns-in_err-unused-clause-goes : goal.returns-in_err-unused-clause-goes
returns-in_err-unused-clause-goes c = c.report_missed_in.ensures.goes

pub returns-clause-warns : goal.returns-clause-warns
returns-clause-warns c = ends_warned c.report_unused.result c.args.at.now c.report_missed_in.new.at c.report_unused.new.at c.in_ok-report_missed_in.ensures.warns c.report_unused.ensures.warns

pub returns-clause-goes : goal.returns-clause-goes
returns-clause-goes c = goes_trans c.args.at.now c.report_missed_in.new.at c.report_unused.new.at c.report_missed_in.ensures.goes c.report_unused.ensures.goes

pub returns-then-is_silent-clause-places : goal.returns-then-is_silent-clause-places
returns-then-is_silent-clause-places c = none_at (warnings_of (row_of c.args.match_row) (place_of c.args.span) (spans_of c.args.self)) c.args.at.now

pub returns-clause-places : goal.returns-clause-places
returns-clause-places c =
    ends_both c.report_unused.result (missed_in (row_of c.args.match_row) (place_of c.args.span)) (unused_cases (spans_of c.args.self)) c.args.at.now c.report_missed_in.new.at c.report_unused.new.at c.in_ok-report_missed_in.ensures.places
    (subst (λ (ss : List Span). OnOk c.report_unused.result (WarnsOf (unused_cases (map place_of ss)) c.report_missed_in.new.at c.report_unused.new.at)) c.deref.ensures.value c.report_unused.ensures.places)

pub returns-then-is_silent-clause-which : goal.returns-then-is_silent-clause-which
returns-then-is_silent-clause-which c = λ members cases holds.
    silent_match c.args.self.is_open c.args.self.rows.items cases c.args.at.now.telling (row_of c.args.match_row) (place_of c.args.span) (faults_of c.args.at.now) (sym c.is_silent.ensures ∙ c.if-is_silent.true) holds.seen

pub returns-clause-which : goal.returns-clause-which
returns-clause-which c =
    let self = c.args.self in
    let rs = self.rows.items in
    let us = c.in_ok-unused.unused.items in
    let old = c.args.at.now in
    let mid = c.report_missed_in.new.at in
    let new = c.report_unused.new.at in
    let r = c.report_unused.result in
    let heard = heard_match self.is_open rs (sym c.is_silent.ensures ∙ c.if-is_silent.false) in
    let which = c.in_ok-report_missed_in.ensures.which in
    rows_reported r self which.0 us old.telling (row_of c.args.match_row) (place_of c.args.span) (faults_of old) (faults_of mid) (faults_of new) heard.0 heard.1 which.1
    (unused_are rs us (λ w ts sound typed. c.in_ok-unused.ensures w ts sound typed)) which.2
    (subst (λ (t : Telling). OnOk r (Reports t (unused_among us 0 (spans_of self)) (faults_of mid) (faults_of new))) c.in_ok-report_missed_in.ensures.warns.rest.telling
    (subst (λ (ss : List Span). OnOk r (Reports mid.telling (unused_among us 0 (map place_of ss)) (faults_of mid) (faults_of new))) c.deref.ensures.value
    (subst (λ (xs : List ℕ). OnOk r (Reports mid.telling (unused_among xs 0 (map place_of c.deref.result.now)) (faults_of mid) (faults_of new))) c.deref-2.ensures.value c.report_unused.ensures.which)))
