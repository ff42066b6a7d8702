use Rattle.typing_state.proofs.Going.{goes_refl}
use Rattle.std.proofs.Common.{◌∙◌, map, ap, subst}
use Rattle.std.specs.Prelude.{IfOk}
use Rattle.row_parts.specs.Numbered.{path_view}
use Rattle.typing_steps.specs.Typing.{path_as}
use Rattle.use_typing.specs.Records.{TypesRecordType}
use Rattle.use_typing.proofs.labels.record_of_fields.Goals as goal

pub returns-clause-carries : goal.returns-clause-carries
returns-clause-carries c =
    subst (λ ls. IfOk c.record_of_labels.result (λ r. TypesRecordType r c.args.at.now c.record_of_labels.new.at c.args.env.now (map path_as ls))) (ap (map path_view) c.deref.ensures.value ∙ c.in_ok-labels.ensures) c.record_of_labels.ensures.carries

pub returns-clause-goes : goal.returns-clause-goes
returns-clause-goes c = c.record_of_labels.ensures.goes

pub returns-in_err-labels-clause-goes : goal.returns-in_err-labels-clause-goes
returns-in_err-labels-clause-goes c = goes_refl c.args.at.now
