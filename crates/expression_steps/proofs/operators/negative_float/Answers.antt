use Rattle.typing_steps.proofs.Recording.{nameless_noted}
use Rattle.expression_steps.proofs.operators.negative_float.Goals as goal

pub returns-clause-carries : goal.returns-clause-carries
returns-clause-carries c = λ aloud. nameless_noted c.args.at.now c.note_type.new.self c.args.number c.args.env.now c.args.at.now.constants.float aloud c.in_ok-note_type.ensures.noted c.note_type.ensures.rest

pub returns-clause-ty : goal.returns-clause-ty
returns-clause-ty c = c.unnamed.ensures.ty

pub returns-clause-goes : goal.returns-clause-goes
returns-clause-goes c = c.note_type.ensures.goes

pub returns-in_err-note_type-clause-goes : goal.returns-in_err-note_type-clause-goes
returns-in_err-note_type-clause-goes c = c.note_type.ensures.goes
