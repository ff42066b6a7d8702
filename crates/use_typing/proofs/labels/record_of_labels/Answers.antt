use Rattle.typing_state.proofs.Going.{goes_trans, goes_refl}
use Rattle.std.proofs.Common.{◌∙◌, map, Some, None, ap, subst}
use Rattle.env_table.specs.Labels.{written_of}
use Rattle.row_parts.specs.Numbered.{path_view}
use Rattle.use_typing.specs.Labels.{found_by}
use Rattle.use_typing.proofs.Recording.{record_typed, record_untyped}
use Rattle.use_typing.specs.Records.{TakesFound}
use Rattle.use_typing.proofs.labels.record_of_labels.Goals as goal

pub returns-in-Some-clause-carries : goal.returns-in-Some-clause-carries
returns-in-Some-clause-carries c =
    let a = c.args.at.now in
    let b = c.record_type.new.at in
    let env = c.args.env.now in
    let written = ap (map written_of) c.deref.ensures.value ∙ c.in_ok-paths.ensures in
    let takes = subst (λ o. TakesFound (found_by env (map written_of c.deref.result.now)) a b o) c.in-Some.is c.in_ok-found.ensures.takes in
    record_typed env (map path_view c.args.labels.now) a b c.in-Some.found (subst (λ ls. TakesFound (found_by env ls) a b (Some c.in-Some.found)) written takes)

pub returns-clause-carries : goal.returns-clause-carries
returns-clause-carries c =
    let a = c.args.at.now in
    let mid = c.record_type.new.at in
    let env = c.args.env.now in
    let written = ap (map written_of) c.deref.ensures.value ∙ c.in_ok-paths.ensures in
    let takes = subst (λ o. TakesFound (found_by env (map written_of c.deref.result.now)) a mid o) c.in-None.is c.in_ok-found.ensures.takes in
    record_untyped env (map path_view c.args.labels.now) a mid c.report_labels.new.at (subst (λ ls. TakesFound (found_by env ls) a mid None) written takes) c.in_ok-report_labels-in-None.ensures.tells c.report_labels.ensures.rest

pub returns-clause-goes : goal.returns-clause-goes
returns-clause-goes c = goes_trans c.args.at.now c.record_type.new.at c.report_labels.new.at c.record_type.ensures.goes c.report_labels.ensures.goes

pub returns-in-Some-clause-goes : goal.returns-in-Some-clause-goes
returns-in-Some-clause-goes c = c.record_type.ensures.goes

pub returns-in_err-found-clause-goes : goal.returns-in_err-found-clause-goes
returns-in_err-found-clause-goes c = c.record_type.ensures.goes

pub returns-in_err-paths-clause-goes : goal.returns-in_err-paths-clause-goes
returns-in_err-paths-clause-goes c = goes_refl c.args.at.now

pub returns-in_err-report_labels-in-None-clause-goes : goal.returns-in_err-report_labels-in-None-clause-goes
returns-in_err-report_labels-in-None-clause-goes c = goes_trans c.args.at.now c.record_type.new.at c.report_labels.new.at c.record_type.ensures.goes c.report_labels.ensures.goes
