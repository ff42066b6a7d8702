use Rattle.type_expressions.proofs.Untyped.{plain_untyped, ok_then}
use Rattle.decl_typing.proofs.Denoting.{index_then}
use Rattle.typing_state.proofs.Going.{goes_trans}
use Rattle.decl_typing.proofs.decls.note_written.Goals as goal

pub returns-clause-goes : goal.returns-clause-goes
returns-clause-goes c = goes_trans c.args.at.now c.note_plain.new.self c.note_all.new.at c.note_plain.ensures.goes c.note_all.ensures.goes

pub returns-in_err-note_plain-clause-goes : goal.returns-in_err-note_plain-clause-goes
returns-in_err-note_plain-clause-goes c = c.note_plain.ensures.goes

pub returns-clause-rest : goal.returns-clause-rest
returns-clause-rest c = index_then c.note_plain.ensures.rest c.note_all.ensures.rest

pub returns-clause-untyped : goal.returns-clause-untyped
returns-clause-untyped c = ok_then c.note_all.result c.args.at.now c.note_plain.new.self c.note_all.new.at (plain_untyped c.args.at.now c.note_plain.new.self c.args.part.now.number c.args.inner.now c.in_ok-note_plain.ensures.noted c.note_plain.ensures.rest) c.note_all.ensures.untyped

pub returns-in_err-note_plain-clause-rest : goal.returns-in_err-note_plain-clause-rest
returns-in_err-note_plain-clause-rest c = c.note_plain.ensures.rest
