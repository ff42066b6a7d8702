use Rattle.type_expressions.proofs.Untyped.{untyped_same, plain_untyped}
use Rattle.typing_state.proofs.Going.{goes_refl}
use Rattle.decl_typing.proofs.decls.exception_part.Goals as goal

pub returns-in-Some-node-clause-goes : goal.returns-in-Some-node-clause-goes
returns-in-Some-node-clause-goes c = c.exception.ensures.goes

pub returns-in_default-clause-goes : goal.returns-in_default-clause-goes
returns-in_default-clause-goes c = goes_refl c.args.at.now

pub returns-in_err-note_plain-in-None-clause-goes : goal.returns-in_err-note_plain-in-None-clause-goes
returns-in_err-note_plain-in-None-clause-goes c = c.note_plain.ensures.goes

pub returns-in_ok-note_plain-in-None-clause-goes : goal.returns-in_ok-note_plain-in-None-clause-goes
returns-in_ok-note_plain-in-None-clause-goes c = c.note_plain.ensures.goes

pub returns-in-Some-node-clause-untyped : goal.returns-in-Some-node-clause-untyped
returns-in-Some-node-clause-untyped c = c.exception.ensures.untyped

pub returns-in_default-clause-untyped : goal.returns-in_default-clause-untyped
returns-in_default-clause-untyped c = untyped_same c.args.at.now

pub returns-in_ok-note_plain-in-None-clause-untyped : goal.returns-in_ok-note_plain-in-None-clause-untyped
returns-in_ok-note_plain-in-None-clause-untyped c = plain_untyped c.args.at.now c.note_plain.new.self c.in-Some.part.number c.args.env.now c.in_ok-note_plain-in-None.ensures.noted c.note_plain.ensures.rest
