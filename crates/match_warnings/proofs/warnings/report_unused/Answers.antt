use Rattle.std.proofs.Common.{List, ◌+◌, arith, get_or, map, drop, sym, subst}
use Rattle.std.specs.Prelude.{◌==◌}
use Rattle.std.specs.List.{list_any}
use Rattle.std.proofs.lemmas.List.{drop_more, drop_all}
use Rattle.text_terms.specs.declared.Span.{Span}
use Rattle.syntax_tree.specs.View.{place_of}
use Rattle.typing_state.proofs.Going.{goes_refl, goes_trans}
use Rattle.match_warnings.specs.Warnings.{WarnsOf, unused_at, unused_cases}
use Rattle.typing_state.specs.declared.parts.Telling.{Telling}
use Rattle.typing_state.specs.Goes.{faults_of}
use Rattle.match_warnings.specs.Reported.{Reports, unused_among, unused_if}
use Rattle.match_warnings.proofs.Reported.{reports_none, reports_then}
use Rattle.match_warnings.proofs.Warned.{warns_none, warns_both, none_at, of_both}
use Rattle.match_warnings.proofs.warnings.report_unused.Goals as goal

-- the empty span
abbrev no_span : Span
no_span = record { start = 0; end = 0 }

pub loop-place-preserved : goal.loop-place-preserved
loop-place-preserved c =
    let i = c.loop-place.place in
    record {
      goes = goes_trans _ _ _ c.loop-place.invariant.goes c.report_if_unused.ensures.goes;
      warns = warns_both _ _ _ c.loop-place.invariant.warns c.in_ok-report_if_unused.ensures.warns;
      which = λ b rest.
          let t = c.args.at.now.telling in
          let us = c.args.unused.now in
          let x = get_or c.args.cases.now i no_span in
          let ws = unused_if (list_any (λ u. u == i) us) (place_of x) in
          c.loop-place.invariant.which b (subst (λ (cases : List Span). Reports t (unused_among us i (map place_of cases)) (faults_of c.loop-place.at) b) (sym (drop_more c.args.cases.now i no_span c.loop-place-test.true))
          (reports_then t ws (unused_among us (i + 1) (map place_of (drop (i + 1) c.args.cases.now))) (faults_of c.loop-place.at) (faults_of c.report_if_unused.new.at) b
          (subst (λ (q : Telling). Reports q ws (faults_of c.loop-place.at) (faults_of c.report_if_unused.new.at)) c.loop-place.invariant.warns.rest.telling c.in_ok-report_if_unused.ensures.which) rest));
      places = λ b rest. c.loop-place.invariant.places b (subst (λ (cases : List Span). WarnsOf (unused_cases (map place_of cases)) c.loop-place.at b) (sym (drop_more c.args.cases.now i _ c.loop-place-test.true))
          (of_both (unused_at (place_of _)) (unused_cases (map place_of (drop (i + 1) c.args.cases.now))) c.loop-place.at c.report_if_unused.new.at b c.in_ok-report_if_unused.ensures.places rest));
    }

pub loop-place-init : goal.loop-place-init
loop-place-init c = record { goes = goes_refl c.args.at.now; warns = warns_none c.args.at.now; which = λ b rest. rest; places = λ b rest. rest }

pub returns-in_err-report_if_unused-clause-goes : goal.returns-in_err-report_if_unused-clause-goes
returns-in_err-report_if_unused-clause-goes c = goes_trans c.args.at.now c.loop-place.at c.report_if_unused.new.at c.loop-place.invariant.goes c.report_if_unused.ensures.goes

pub returns-clause-warns : goal.returns-clause-warns
returns-clause-warns c = c.loop-place.invariant.warns

pub returns-clause-places : goal.returns-clause-places
returns-clause-places c = c.loop-place.invariant.places c.loop-place.at (none_at (unused_cases (map place_of (drop c.loop-place.place c.args.cases.now))) c.loop-place.at)

pub returns-clause-goes : goal.returns-clause-goes
returns-clause-goes c = c.loop-place.invariant.goes

pub returns-clause-which : goal.returns-clause-which
returns-clause-which c =
    let t = c.args.at.now.telling in
    c.loop-place.invariant.which (faults_of c.loop-place.at)
    (subst (λ (cases : List Span). Reports t (unused_among c.args.unused.now c.loop-place.place (map place_of cases)) (faults_of c.loop-place.at) (faults_of c.loop-place.at))
    (sym (drop_all c.loop-place.place c.args.cases.now (omega arith))) (reports_none t (faults_of c.loop-place.at)))
