use Rattle.typing_state.proofs.Going.{goes_trans}
use Rattle.std.proofs.Common.{◌∙◌, ◌∷◌, map, ap}
use Rattle.row_parts.specs.Numbered.{operand_view, path_view}
use Rattle.use_typing.specs.Paths.{labels_of}
use Rattle.expression_steps.proofs.RecordLaws.{made_found}
use Rattle.expression_steps.proofs.fields.record_of_made.Goals as goal

pub returns-clause-carries : goal.returns-clause-carries
returns-clause-carries c =
    made_found c.record_of_labels.result c.args.at.now c.note_missing.new.at c.record_of_labels.new.at c.args.env.now (path_view c.args.label.now) (map operand_view c.args.pieces.now.fields.items) (map path_view c.deref-3.result.now)
    (ap (map path_view) c.deref-3.ensures.value ∙ c.in_ok-labels.ensures ∙ ap (λ os. path_view c.args.label.now ∷ labels_of (map operand_view os)) c.deref-2.ensures.value)
    c.in_ok-note_missing.ensures.notes c.note_missing.ensures.goes c.record_of_labels.ensures.carries c.record_of_labels.ensures.goes

pub returns-clause-goes : goal.returns-clause-goes
returns-clause-goes c = goes_trans c.args.at.now c.note_missing.new.at c.record_of_labels.new.at c.note_missing.ensures.goes c.record_of_labels.ensures.goes

pub returns-in_err-labels-clause-goes : goal.returns-in_err-labels-clause-goes
returns-in_err-labels-clause-goes c = c.note_missing.ensures.goes

pub returns-in_err-note_missing-clause-goes : goal.returns-in_err-note_missing-clause-goes
returns-in_err-note_missing-clause-goes c = c.note_missing.ensures.goes
