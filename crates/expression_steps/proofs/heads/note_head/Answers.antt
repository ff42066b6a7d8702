use Rattle.std.proofs.Common.{refl, Some}
use Rattle.typing_steps.proofs.Recording.{type_noted}
use Rattle.expression_steps.proofs.heads.note_head.Goals as goal

pub returns-clause-carries : goal.returns-clause-carries
returns-clause-carries c = λ aloud.
    type_noted c.args.at.now c.note.new.self c.args.number c.args.found.built (record { env = c.args.env.now; ty = Some c.args.found.built; names = c.args.found.names }) refl aloud c.in_ok-note.ensures.noted c.note.ensures.rest

pub returns-clause-goes : goal.returns-clause-goes
returns-clause-goes c = c.note.ensures.goes

pub returns-in_err-note-clause-goes : goal.returns-in_err-note-clause-goes
returns-in_err-note-clause-goes c = c.note.ensures.goes
