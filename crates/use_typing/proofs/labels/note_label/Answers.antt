use Rattle.typing_state.proofs.Going.{goes_refl}
use Rattle.std.proofs.Common.{None, refl}
use Rattle.use_typing.proofs.Recording.{field_noted}
use Rattle.use_typing.proofs.labels.note_label.Goals as goal

pub returns-clause-goes : goal.returns-clause-goes
returns-clause-goes c = c.note.ensures.goes

pub returns-in_err-names-clause-goes : goal.returns-in_err-names-clause-goes
returns-in_err-names-clause-goes c = goes_refl c.args.at.now

pub returns-clause-carries : goal.returns-clause-carries
returns-clause-carries c = field_noted c.note.result c.args.at.now c.note.new.self c.args.number (record { env = c.args.env.now; ty = None; names = c.in_ok-names.names }) refl c.note.ensures.noted c.note.ensures.rest

pub returns-clause-recorded : goal.returns-clause-recorded
returns-clause-recorded c = c.note.ensures.recorded
