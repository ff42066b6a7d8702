use Rattle.typing_state.proofs.Going.{goes_trans}
use Rattle.row_parts.specs.Numbered.{path_view}
use Rattle.typing_state.specs.Bound.{names_of_tokens}
use Rattle.typing_steps.specs.Typing.{path_as}
use Rattle.use_typing.specs.Labels.{toks_of}
use Rattle.use_typing.proofs.Recording.{field_begins}
use Rattle.use_typing.proofs.labels.begin_field.Goals as goal

pub returns-clause-goes : goal.returns-clause-goes
returns-clause-goes c = goes_trans c.args.at.now c.ask_new_label.new.at c.field_type.new.at c.ask_new_label.ensures.goes c.field_type.ensures.goes

pub returns-in_err-ask_new_label-clause-goes : goal.returns-in_err-ask_new_label-clause-goes
returns-in_err-ask_new_label-clause-goes c = c.ask_new_label.ensures.goes

pub returns-clause-carries : goal.returns-clause-carries
returns-clause-carries c =
    field_begins c.field_type.result c.args.fields.now.found (names_of_tokens (toks_of c.args.fields.now.labels.items)) (path_as (path_view c.args.label.now)) c.args.at.now c.ask_new_label.new.at c.field_type.new.at c.in_ok-ask_new_label.ensures.once c.field_type.ensures.gives
